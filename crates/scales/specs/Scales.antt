-- The scales of parameters, along document 01's line "Scales, f being `scaler`": what each draws and makes, the limits of its parameters, and its call.
-- Definitions only. Assumes nothing.
use Rattle.std.specs.Prelude.{Bool, ◌&&◌, cond, ℕ, negsuc, Float, Option, Some, None}
use Rattle.std.specs.Float.{binary64}
use Rattle.std.specs.Float.Ieee.{of_bits, eq, mul}
use Rattle.std.specs.Float.Ieee.Scale.{finite}
use Rattle.answer.specs.declared.Ratio.TheVariants.{Power}
use Rattle.random.specs.declared.Random.{Random}
use Rattle.random.specs.Draw.{Draw, return, ◌>>=◌, uniform}
use Rattle.real.specs.Real as Real
use Rattle.real.specs.Real.{one, is_not_negative}
use Rattle.rules.specs.Rules.{within}
use Rattle.calls.specs.Change.{Change, declined, scaled, on_part, Proposed, value_call}
use Rattle.calls.specs.Draws.{scaler, tuned}
use Rattle.speciation.specs.declared.Speciation.{Speciation}
use Rattle.speciation.specs.declared.Speciation.TheVariants.{Yule, BirthDeath}

-- ---- a factor

-- "f being `scaler`": what the factor makes of a value is taken where the line admits it; "Scales: k = −1"
unfoldable pub factored : Float → (Float → Float) → (Float → Bool) → Draw (Change Float)
factored tuning make admits = do
  u ← uniform
  let f = scaler tuning u in return (cond (admits (make f)) (scaled (make f) (Power f (negsuc 0))) declined)

-- ---- `scale`

-- "declined if value·f is outside 0 to the upper end, or undrawn at 0"
unfoldable pub scale : Float → Float → Float → Draw (Change Float)
scale value upper tuning = cond (eq value Real.zero) (return declined) (factored tuning (mul binary64 value) (λ x. within Real.zero x upper))

-- "tuning 1e-8 to 1"; "parameters [...] finite"; "upper ends and offset finite, not negative"
unfoldable pub scale_limits : Float → Float → Float → Bool
scale_limits value upper tuning = tuned tuning && is_not_negative upper && finite value

abbrev pub scale_call : Float → Float → Float → Random → ℕ → Proposed Float
scale_call value upper tuning g allowance = value_call (scale_limits value upper tuning) (scale value upper tuning) value g allowance

-- ---- ClockRateScale, of the mean rate, which may be missing

-- the largest finite float
abbrev pub largest : Float
largest = of_bits binary64 0x7fef_ffff_ffff_ffff

unfoldable pub clock_rate : Option Float → Float → Draw (Change (Option Float))
clock_rate None tuning = return declined
clock_rate (Some mean) tuning = on_part Some (scale mean largest tuning)

unfoldable pub clock_rate_limits : Option Float → Float → Bool
clock_rate_limits None tuning = tuned tuning
clock_rate_limits (Some mean) tuning = scale_limits mean largest tuning

abbrev pub clock_rate_call : Option Float → Float → Random → ℕ → Proposed (Option Float)
clock_rate_call mean tuning g allowance = value_call (clock_rate_limits mean tuning) (clock_rate mean tuning) mean g allowance

-- ---- the scales of speciation: "Yule holds one rate, BirthDeath holds two". Each declines the other kind undrawn

unfoldable pub speciation_limits : Speciation → Float → Float → Bool
speciation_limits (Yule rate) upper tuning = tuned tuning && is_not_negative upper && finite rate
speciation_limits (BirthDeath difference death) upper tuning = tuned tuning && is_not_negative upper && finite difference && finite death

-- BirthDifferenceScale
unfoldable pub birth_difference : Speciation → Float → Float → Draw (Change Speciation)
birth_difference (Yule rate) upper tuning = return declined
birth_difference (BirthDeath difference death) upper tuning = on_part (λ x. BirthDeath x death) (scale difference upper tuning)

abbrev pub birth_difference_call : Speciation → Float → Float → Random → ℕ → Proposed Speciation
birth_difference_call s upper tuning g allowance = value_call (speciation_limits s upper tuning) (birth_difference s upper tuning) s g allowance

-- BirthRateScale
unfoldable pub birth_rate : Speciation → Float → Float → Draw (Change Speciation)
birth_rate (Yule rate) upper tuning = on_part Yule (scale rate upper tuning)
birth_rate (BirthDeath difference death) upper tuning = return declined

abbrev pub birth_rate_call : Speciation → Float → Float → Random → ℕ → Proposed Speciation
birth_rate_call s upper tuning g allowance = value_call (speciation_limits s upper tuning) (birth_rate s upper tuning) s g allowance

-- RelativeDeathScale, whose upper end is 1
unfoldable pub relative_death : Speciation → Float → Draw (Change Speciation)
relative_death (Yule rate) tuning = return declined
relative_death (BirthDeath difference death) tuning = on_part (λ x. BirthDeath difference x) (scale death one tuning)

abbrev pub relative_death_call : Speciation → Float → Random → ℕ → Proposed Speciation
relative_death_call s tuning g allowance = value_call (speciation_limits s one tuning) (relative_death s tuning) s g allowance
