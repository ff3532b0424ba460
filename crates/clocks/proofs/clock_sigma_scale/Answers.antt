-- `clocks::clock_sigma_scale` meets its contract. Assumes nothing.
use Rattle.clocks.proofs.ClockLaws.{sigma-given}
use Rattle.clocks.proofs.clock_sigma_scale.Goals as goal

pub returns-in-Some : goal.returns-in-Some
returns-in-Some c = sigma-given _ _ _ _ _ _ c.in-Some.is _ c.is_timed-limits.ensures _ c.positive_scale-scaled.ensures
