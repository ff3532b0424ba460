-- `scales::relative_death_scale` meets its contract. Assumes nothing.
use Rattle.scales.proofs.UseLaws.{death_yule, death-outside-limits, death-scaled}
use Rattle.scales.proofs.relative_death_scale.Goals as goal

pub returns-in-Yule : goal.returns-in-Yule
returns-in-Yule c = death_yule _ _ _ _ _ c.in-Yule.is _ c.is_scalable.ensures _ c.undrawn.ensures

pub returns-then-not-is_finite : goal.returns-then-not-is_finite
returns-then-not-is_finite c = death-outside-limits _ _ _ _ _ _ c.in-BirthDeath.is _ c.is_finite.ensures c.if-not-is_finite.true _ c.refuse.ensures

pub returns-else-not-is_finite : goal.returns-else-not-is_finite
returns-else-not-is_finite c = death-scaled _ _ _ _ _ _ c.in-BirthDeath.is _ c.is_finite.ensures c.if-not-is_finite.false _ c.scale-scaled.ensures
