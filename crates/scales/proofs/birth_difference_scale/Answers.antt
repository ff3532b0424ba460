-- `scales::birth_difference_scale` meets its contract. Assumes nothing.
use Rattle.scales.proofs.UseLaws.{difference_yule, difference-outside-limits, difference-scaled}
use Rattle.scales.proofs.birth_difference_scale.Goals as goal

pub returns-in-Yule : goal.returns-in-Yule
returns-in-Yule c = difference_yule _ _ _ _ _ _ c.in-Yule.is _ c.is_scalable.ensures _ c.undrawn.ensures

pub returns-then-not-is_finite : goal.returns-then-not-is_finite
returns-then-not-is_finite c = difference-outside-limits _ _ _ _ _ _ _ c.in-BirthDeath.is _ c.is_finite.ensures c.if-not-is_finite.true _ c.refuse.ensures

pub returns-else-not-is_finite : goal.returns-else-not-is_finite
returns-else-not-is_finite c = difference-scaled _ _ _ _ _ _ _ c.in-BirthDeath.is _ c.is_finite.ensures c.if-not-is_finite.false _ c.scale-scaled.ensures
