-- `fields::fbd_scale` meets its contract. Assumes nothing.
use Rattle.fields.proofs.FieldLaws.{fbd-done}
use Rattle.fields.proofs.fbd_scale.Goals as goal

pub returns : goal.returns
returns c =
    fbd-done _ _ _ _ _ _ _ _ c.is_within_limits-limits.ensures _ c.kind.ensures _ c.estimates-estimated.ensures _ c.of-value.ensures _ c.shift-shift.ensures _ c.field_scale-scaled.ensures _ c.put.ensures
