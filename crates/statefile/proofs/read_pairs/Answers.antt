-- `statefile::read_pairs` meets its contract. Assumes nothing.
use Rattle.std.proofs.Common.{◌∙◌}
use Rattle.std.proofs.lemmas.Result.{err_from_is_err_and}
use Rattle.statefile.proofs.FillLaws.{missed, pairs-wrong}
use Rattle.statefile.proofs.read_pairs.Goals as goal

pub returns-in_err-a : goal.returns-in_err-a
returns-in_err-a c =
    let p = err_from_is_err_and c.from_residual.result c.from_residual.ensures.1 in
    let none = c.in_err-a.ensures.ok_part in
    rw (p.1, p.2 ∙ missed _ _ _ c.in_err-a.ensures.value none)
    (pairs-wrong _ _ _ _ _ _ _ _ _ c.loop-k.invariant c.loop-k-test.true _ c.read_pair.ensures none)
