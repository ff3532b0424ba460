-- `statefile::read_tree` meets its contract. Assumes nothing.
use Rattle.std.proofs.lemmas.Result.{err_from_is_err_and}
use Rattle.statefile.proofs.FileLaws.{tree-pairs, tree-heights, tree_over, tree_all}
use Rattle.statefile.proofs.read_tree.Goals as goal

pub returns-in_err-i : goal.returns-in_err-i
returns-in_err-i c =
    let p = err_from_is_err_and c.from_residual.result c.from_residual.ensures.1 in
    rw (p.1, p.2) (tree-pairs c.args.tips c.args.at c.args.s.now c.args.pairs.now c.args.heights.now _ c.read_nodes.new.pairs c.read_nodes.ensures c.args.heights.now _ c.in_err-i.was)

pub returns-in_err-end : goal.returns-in_err-end
returns-in_err-end c =
    let p = err_from_is_err_and c.from_residual-in_err-end.result c.from_residual-in_err-end.ensures.1 in
    rw (p.1, p.2)
    (tree-heights _ _ _ _ _ _ _ c.read_nodes.ensures _ _ _ _ _ c.in_ok-i.was c.saturating_sub-line.ensures c.node_count-count.ensures c.read_heights.ensures
    _ c.in_err-end.was)

pub returns-then-s-end : goal.returns-then-s-end
returns-then-s-end c =
    tree_all _ _ _ _ _ _ _ c.read_nodes.ensures _ _ _ _ _ c.in_ok-i.was c.saturating_sub-line.ensures c.node_count-count.ensures c.read_heights.ensures
    _ c.in_ok-end.was c.if-s-end.true

pub returns-else-s-end : goal.returns-else-s-end
returns-else-s-end c =
    tree_over _ _ _ _ _ _ _ c.read_nodes.ensures _ _ _ _ _ c.in_ok-i.was c.saturating_sub-line.ensures c.node_count-count.ensures c.read_heights.ensures
    _ c.in_ok-end.was c.if-s-end.false
