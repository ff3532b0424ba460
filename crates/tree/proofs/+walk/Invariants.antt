-- `tree::walk` meets its contract. Assumes nothing.
use Rattle.tree.proofs.+walk.Given as goal

abbrev pub decreases-walk : goal.decreases-walk
decreases-walk l = l.depth
