-- `branches::crossing` meets its contract. Assumes nothing.
use Rattle.branches.proofs.+crossing.Given as goal

abbrev pub decreases-crossing : goal.decreases-crossing
decreases-crossing l = l.depth
