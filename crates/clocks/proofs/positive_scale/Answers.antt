-- `clocks::positive_scale` meets its contract. Assumes nothing.
use Rattle.clocks.proofs.ClockLaws.{positive-settled}
use Rattle.clocks.proofs.positive_scale.Goals as goal

pub returns : goal.returns
returns c = positive-settled _ _ _ _ _ _ c.is_fine.ensures c.if-not-is_fine.false _ _ c.in-Some.ensures _ c.scaler-f.ensures _ c.is_positive.ensures _ c.settle.ensures
