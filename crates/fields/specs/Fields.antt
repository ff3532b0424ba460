-- The plain scales of a fossilized birth–death process, along document 01's line "Scales, f being `scaler`" and `ProcessPriors::propose` of
-- dating/process.rs: what each draws and makes, the limits of its parameters, and its call. Definitions only. Assumes nothing.
use Rattle.std.specs.Prelude.{Bool, ◌&&◌, cond, ℕ, Float}
use Rattle.std.specs.Float.{binary64}
use Rattle.std.specs.Float.Ieee.{lt, add, sub, mul}
use Rattle.std.specs.Float.Ieee.Scale.{finite}
use Rattle.random.specs.declared.Random.{Random}
use Rattle.random.specs.Draw.{Draw, return}
use Rattle.real.specs.Real as Real
use Rattle.real.specs.Real.{is_not_negative}
use Rattle.calls.specs.Change.{Change, declined, on_part, Proposed, value_call}
use Rattle.calls.specs.Draws.{tuned}
use Rattle.kinds.specs.declared.Move.{Move}
use Rattle.kinds.specs.declared.Move.TheVariants as Moves
use Rattle.process.specs.declared.FossilizedBirthDeath.{FossilizedBirthDeath}
use Rattle.process.specs.declared.ProcessPriors.{ProcessPriors}
use Rattle.process.specs.Process.{estimates, priors_finite, process_finite}
use Rattle.fields.specs.declared.Field.{Field}
use Rattle.fields.specs.declared.Field.TheVariants.{Birth, Death, FossilSampling, Origin}
use Rattle.scales.specs.Scales.{factored}

-- ---- the four plain scales of `ProcessPriors::propose`

-- "process, shift + (value − shift)·f [...]: unless finite and above shift"
abbrev pub above : Float → Float → Bool
above shift x = finite x && lt shift x

unfoldable pub shifted : Float → Float → Float → Draw (Change Float)
shifted value shift tuning = factored tuning (λ f. add binary64 shift (mul binary64 (sub binary64 value shift) f)) (above shift)

-- undrawn where the parameter is not estimated
unfoldable pub field : Bool → Float → Float → Float → Draw (Change Float)
field estimated value shift tuning = cond estimated (shifted value shift tuning) (return declined)

-- the move that scales a field, the field's value, and the process with another
abbrev pub move_of : Field → Move
move_of Birth = Moves.FbdBirthScale
move_of Death = Moves.FbdDeathScale
move_of FossilSampling = Moves.FbdSamplingScale
move_of Origin = Moves.FbdOriginScale

abbrev pub value_of : Field → FossilizedBirthDeath → Float
value_of Birth p = p.birth
value_of Death p = p.death
value_of FossilSampling p = p.fossil_sampling
value_of Origin p = p.origin

abbrev pub put : Field → FossilizedBirthDeath → Float → FossilizedBirthDeath
put Birth p x = record { birth = x; death = p.death; fossil_sampling = p.fossil_sampling; present_sampling = p.present_sampling; origin = p.origin }
put Death p x = record { birth = p.birth; death = x; fossil_sampling = p.fossil_sampling; present_sampling = p.present_sampling; origin = p.origin }
put FossilSampling p x = record { birth = p.birth; death = p.death; fossil_sampling = x; present_sampling = p.present_sampling; origin = p.origin }
put Origin p x = record { birth = p.birth; death = p.death; fossil_sampling = p.fossil_sampling; present_sampling = p.present_sampling; origin = x }

-- "with shift the offset for the origin, else 0"
abbrev pub shift_of : Field → Float → Float
shift_of Birth offset = Real.zero
shift_of Death offset = Real.zero
shift_of FossilSampling offset = Real.zero
shift_of Origin offset = offset

unfoldable pub fbd : Field → ProcessPriors → FossilizedBirthDeath → Float → Float → Draw (Change FossilizedBirthDeath)
fbd k priors p offset tuning = on_part (put k p) (field (estimates priors (move_of k)) (value_of k p) (shift_of k offset) tuning)

-- "parameters and process fields finite"
unfoldable pub fbd_limits : ProcessPriors → FossilizedBirthDeath → Float → Float → Bool
fbd_limits priors p offset tuning = tuned tuning && is_not_negative offset && process_finite p && priors_finite priors

abbrev pub fbd_call : Field → ProcessPriors → FossilizedBirthDeath → Float → Float → Random → ℕ → Proposed FossilizedBirthDeath
fbd_call k priors p offset tuning g allowance = value_call (fbd_limits priors p offset tuning) (fbd k priors p offset tuning) p g allowance
