-- `newick_write::take_node` meets its contract: the depth falls. Assumes nothing.
use Rattle.newick_write.proofs.+take_node.Given as goal

abbrev pub decreases-take_node : goal.decreases-take_node
decreases-take_node l = l.depth
