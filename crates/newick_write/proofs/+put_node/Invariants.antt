-- `newick_write::put_node` meets its contract: the depth falls. Assumes nothing.
use Rattle.newick_write.proofs.+put_node.Given as goal

abbrev pub decreases-put_node : goal.decreases-put_node
decreases-put_node l = l.depth
