-- `scales::scale` meets its contract. Assumes nothing.
use Rattle.scales.proofs.ScaleLaws.{scale-settled}
use Rattle.scales.proofs.scale.Goals as goal

pub returns : goal.returns
returns c =
    scale-settled _ _ _ _ _ _ c.is_scalable.ensures c.if-not-is_scalable.false c.if-value.false _ _ c.in-Some.ensures _ c.scaler-f.ensures _ c.is_within.ensures _ c.settle.ensures
