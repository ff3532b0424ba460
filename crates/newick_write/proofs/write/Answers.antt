-- `newick_write::write` meets its contract. Assumes nothing.
use Rattle.std.proofs.lemmas.Result.{err_from_is_err_and}
use Rattle.newick_write.proofs.WriteLaws.{write-refused}
use Rattle.newick_write.proofs.write.Goals as goal

pub returns-in_err-validate : goal.returns-in_err-validate
returns-in_err-validate c =
    let p = err_from_is_err_and c.from_residual.result c.from_residual.ensures.1 in
    rw (p.1, p.2) (write-refused _ _ _ _ _ _ c.validate.ensures _ c.in_err-validate.was)
