-- `dating::age_tip` meets its contract. Assumes nothing.
use Rattle.dating.proofs.TipAgeLaws.{age-moved}
use Rattle.dating.proofs.age_tip.Goals as goal

pub returns : goal.returns
returns c = λ pairs.
    age-moved _ _ _ _ _ _ _ _ _ c.parent.ensures _ c.height.ensures _ c.interval-left.ensures c.if-left.false _ _ c.in-Some.ensures _ c.in-Some-interpolate.ensures _
    c.set_height.ensures
