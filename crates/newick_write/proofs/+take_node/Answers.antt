-- `newick_write::take_node` meets its contract. Assumes nothing.
use Rattle.newick_write.proofs.PutLaws.{room-none, room-tip}
use Rattle.newick_write.proofs.+take_node.Goals as goal
use Rattle.newick_write.proofs.+take_node.Goals.{then-depth-eq0-via-then-depth-eq0, then-depth-eq0-via-else-depth-eq0+then-not-is_inner}

pub returns-then-depth-eq0 : goal.returns-then-depth-eq0
returns-then-depth-eq0 t c = elim c.then-depth-eq0.branch [
  | then-depth-eq0-via-then-depth-eq0 w ↦ room-none _ _ _ _ _ _ w.if-depth-eq0.true c.ranges.node.fits _ c.decimal_len.ensures _ c.take.ensures
  | then-depth-eq0-via-else-depth-eq0+then-not-is_inner w ↦
      room-tip _ _ _ _ _ _ w.if-depth-eq0.false _ w.is_inner.ensures w.if-not-is_inner.true c.ranges.node.fits _ c.decimal_len.ensures _ c.take.ensures
]
