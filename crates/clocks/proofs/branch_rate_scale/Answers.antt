-- `clocks::branch_rate_scale` meets its contract. Assumes nothing.
use Rattle.clocks.proofs.ClockLaws.{branch-given}
use Rattle.clocks.proofs.branch_rate_scale.Goals as goal

pub returns-in-Some : goal.returns-in-Some
returns-in-Some c = branch-given _ _ _ _ _ _ c.in-Some.is _ c.is_timed-limits.ensures _ _ c.rate_scale.ensures
