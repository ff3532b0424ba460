-- `scales::birth_rate_scale` meets its contract. Assumes nothing.
use Rattle.scales.proofs.UseLaws.{rate-yule, rate-outside-limits, rate-birth-death}
use Rattle.scales.proofs.birth_rate_scale.Goals as goal

pub returns-in-Yule : goal.returns-in-Yule
returns-in-Yule c = rate-yule _ _ _ _ _ _ c.in-Yule.is _ c.scale-scaled.ensures

pub returns-then-not-is_finite : goal.returns-then-not-is_finite
returns-then-not-is_finite c = rate-outside-limits _ _ _ _ _ _ _ c.in-BirthDeath.is _ c.is_finite.ensures c.if-not-is_finite.true _ c.refuse.ensures

pub returns-else-not-is_finite : goal.returns-else-not-is_finite
returns-else-not-is_finite c = rate-birth-death _ _ _ _ _ _ _ c.in-BirthDeath.is _ c.is_finite.ensures c.if-not-is_finite.false _ c.is_scalable.ensures _ c.undrawn.ensures
