-- `fields::field_scale` meets its contract. Assumes nothing.
use Rattle.fields.proofs.FieldLaws.{field-settled}
use Rattle.fields.proofs.field_scale.Goals as goal

pub returns : goal.returns
returns c = field-settled _ _ _ _ _ _ _ _ c.is_fine.ensures c.if-not-is_fine.false c.if-not-estimated.false _ _ c.in-Some.ensures _ c.scaler-f.ensures _ c.is_above.ensures _ c.settle.ensures
