-- The scales of a relaxed clock, along document 01's line "Scales, f being `scaler`": what each draws and makes, the limits of its parameters, and its
-- call. Definitions only. Assumes nothing.
use Rattle.std.specs.Prelude.{Bool, ◌&&◌, List, ℕ, length, get_or, set, Float, Option, Some, None}
use Rattle.std.specs.Float.{nan, binary64}
use Rattle.std.specs.Float.Ieee.{mul}
use Rattle.random.specs.declared.Random.{Random}
use Rattle.random.specs.Draw.{below, Draw, return, draw, ◌>>=◌}
use Rattle.real.specs.Real.{positive}
use Rattle.calls.specs.Change.{Change, declined, on_part, Proposed, value_call}
use Rattle.calls.specs.Draws.{tuned}
use Rattle.rates.specs.Clock.{clock_fits}
use Rattle.scales.specs.Scales.{factored}

-- ---- ClockSigmaScale and BranchRateScale: sigma may be missing, and then there is no clock

-- "clock as `RelaxedClock::new`"
unfoldable pub clock_limits : Option Float → List Float → Float → Bool
clock_limits None rates tuning = tuned tuning
clock_limits (Some sigma) rates tuning = tuned tuning && clock_fits sigma rates

-- "sigma, branch rate: unless finite and positive"
abbrev pub positively : Float → Float → Draw (Change Float)
positively value tuning = factored tuning (mul binary64 value) positive

unfoldable pub clock_sigma : Option Float → Float → Draw (Change (Option Float))
clock_sigma None tuning = return declined
clock_sigma (Some sigma) tuning = on_part Some (positively sigma tuning)

abbrev pub clock_sigma_call : Option Float → List Float → Float → Random → ℕ → Proposed (Option Float)
clock_sigma_call sigma rates tuning g allowance = value_call (clock_limits sigma rates tuning) (clock_sigma sigma tuning) sigma g allowance

-- the index, then the factor
unfoldable pub branch_rate_of : List Float → Float → Draw (Change (List Float))
branch_rate_of rates tuning = do
  i ← draw (below (length rates))
  on_part (set rates i) (positively (get_or rates i nan) tuning)

unfoldable pub branch_rate : Option Float → List Float → Float → Draw (Change (List Float))
branch_rate None rates tuning = return declined
branch_rate (Some sigma) rates tuning = branch_rate_of rates tuning

abbrev pub branch_rate_call : Option Float → List Float → Float → Random → ℕ → Proposed (List Float)
branch_rate_call sigma rates tuning g allowance = value_call (clock_limits sigma rates tuning) (branch_rate sigma rates tuning) rates g allowance
