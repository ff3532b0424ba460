-- `statefile::read_heights` meets its contract. Assumes nothing.
use Rattle.std.proofs.Common.{◌∙◌}
use Rattle.std.proofs.lemmas.Result.{err_from_is_err_and}
use Rattle.statefile.proofs.FillLaws.{missed, heights-wrong}
use Rattle.statefile.proofs.read_heights.Goals as goal

pub returns-in_err-w : goal.returns-in_err-w
returns-in_err-w c =
    let p = err_from_is_err_and c.from_residual.result c.from_residual.ensures.1 in
    let none = c.in_err-w.ensures.ok_part in
    rw (p.1, p.2 ∙ missed _ _ _ c.in_err-w.ensures.value none)
    (heights-wrong _ _ _ _ _ _ _ _ c.loop-k.invariant c.loop-k-test.true _ c.read_height.ensures none)
