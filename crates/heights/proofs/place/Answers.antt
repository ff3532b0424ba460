-- `heights::place` meets its contract. Assumes nothing.
use mathlib.Core.Path.{refl}
use Rattle.heights.proofs.NodeHeightLaws.{place-moved}
use Rattle.heights.proofs.place.Goals as goal

pub returns : goal.returns
returns c =
    place-moved _ _ _ _ _ _ _ _ _ c.in-Some.ensures _ c.floor-lower.ensures _ c.in-Some-interpolate.ensures _ refl
