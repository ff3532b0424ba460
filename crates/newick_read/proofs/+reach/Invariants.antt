-- `newick_read::reach` meets its contract: the depth falls. Assumes nothing.
use Rattle.newick_read.proofs.+reach.Given as goal

abbrev pub decreases-reach : goal.decreases-reach
decreases-reach l = l.depth
