-- `newick_read::reach` meets its contract. Assumes nothing.
use Rattle.newick_read.proofs.NodeLaws.{reach-none, reach-tip}
use Rattle.newick_read.proofs.+reach.Goals as goal
use Rattle.newick_read.proofs.+reach.Goals.{then-depth-eq0-via-then-depth-eq0, then-depth-eq0-via-else-depth-eq0+then-node-tips}

pub returns-then-depth-eq0 : goal.returns-then-depth-eq0
returns-then-depth-eq0 t c = elim c.then-depth-eq0.branch [
  | then-depth-eq0-via-then-depth-eq0 w ↦ reach-none _ _ _ _ _ w.if-depth-eq0.true
  | then-depth-eq0-via-else-depth-eq0+then-node-tips w ↦ reach-tip _ _ _ _ _ w.if-depth-eq0.false w.if-node-tips.true
]
