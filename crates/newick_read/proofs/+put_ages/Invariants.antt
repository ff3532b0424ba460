-- `newick_read::put_ages` meets its contract: the depth falls. Assumes nothing.
use Rattle.newick_read.proofs.+put_ages.Given as goal

abbrev pub decreases-put_ages : goal.decreases-put_ages
decreases-put_ages l = l.depth
