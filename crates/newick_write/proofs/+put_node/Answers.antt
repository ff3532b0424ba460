-- `newick_write::put_node` meets its contract. Assumes nothing.
use Rattle.newick_write.proofs.PutLaws.{node-join}
use Rattle.newick_write.proofs.+put_node.Goals as goal

pub returns : goal.returns
returns t c =
    node-join _ _ _ _ _ _ c.if-depth-eq0.false _ c.is_inner.ensures c.if-not-is_inner.false _ c.read_children-c.ensures _ _ _ _ _
    c.put_byte-first.ensures c.put_node-colon.ensures c.put_branch-second.ensures c.put_node-last.ensures c.put_branch.ensures
