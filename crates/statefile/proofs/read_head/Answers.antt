-- `statefile::read_head` meets its contract. Assumes nothing.
use Rattle.std.proofs.lemmas.Result.{err_from_is_err_and}
use Rattle.statefile.proofs.HeadLaws.{head-supplied, head-asked}
use Rattle.statefile.proofs.read_head.Goals as goal

pub returns-in_err-supplied : goal.returns-in_err-supplied
returns-in_err-supplied c =
    let p = err_from_is_err_and c.from_residual.result c.from_residual.ensures.1 in
    rw (p.1, p.2) (head-supplied _ _ c.read_supplied.ensures _ c.in_err-supplied.was)

pub returns-in_err-asked : goal.returns-in_err-asked
returns-in_err-asked c =
    let p = err_from_is_err_and c.from_residual-in_err-asked.result c.from_residual-in_err-asked.ensures.1 in
    rw (p.1, p.2) (head-asked _ _ c.read_supplied.ensures _ _ _ c.in_ok-supplied.was c.read_asked.ensures _ c.in_err-asked.was)
