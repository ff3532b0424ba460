-- `statefile::read_state` meets its contract. Assumes nothing.
use Rattle.std.proofs.lemmas.Result.{err_from_is_err_and}
use Rattle.statefile.proofs.FileLaws.{file-head, file-tree, file-all}
use Rattle.statefile.proofs.read_state.Goals as goal

pub returns-in_err-head : goal.returns-in_err-head
returns-in_err-head c =
    let p = err_from_is_err_and c.from_residual.result c.from_residual.ensures.1 in
    rw (p.1, p.2) (file-head _ c.args.pairs.now c.args.heights.now _ c.read_head.ensures _ c.in_err-head.was)

pub returns-in_err-read_tree : goal.returns-in_err-read_tree
returns-in_err-read_tree c =
    let p = err_from_is_err_and c.from_residual-in_err-read_tree.result c.from_residual-in_err-read_tree.ensures.1 in
    rw (p.1, p.2) (file-tree _ _ _ _ c.read_head.ensures _ _ _ _ _ c.in_ok-head.was c.read_tree.ensures _ c.in_err-read_tree.was)

pub returns : goal.returns
returns c = file-all _ _ _ _ c.read_head.ensures _ _ _ _ _ c.in_ok-head.was c.read_tree.ensures _ c.in_ok-read_tree.was
