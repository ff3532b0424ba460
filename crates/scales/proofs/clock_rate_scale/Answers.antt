-- `scales::clock_rate_scale` meets its contract. Assumes nothing.
use Rattle.scales.proofs.UseLaws.{clock-rate-given}
use Rattle.scales.proofs.clock_rate_scale.Goals as goal

pub returns-in-Some : goal.returns-in-Some
returns-in-Some c = clock-rate-given _ _ _ _ _ c.in-Some.is _ c.scale-scaled.ensures
