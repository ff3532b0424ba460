-- Calls of the scales of a relaxed clock as rows of one statement on the definitions (`clock-rows`): what each scales, what it declines with its draws
-- and without, and what turns it back. Of what each call leaves, all is said. Assumes nothing.
use Rattle.std.specs.Prelude.{◌≡◌, refl, List, [], ◌∷◌, Float, Some, None}
use Rattle.std.specs.Float.{binary64}
use Rattle.std.specs.Float.Ieee.{of_bits, lt, le, add, sub, mul, div, round}
use Rattle.words.specs.Words.{rotl}
use Rattle.answer.specs.declared.Refusal.TheVariants.{Parameter, Allowance}
use Rattle.random.specs.declared.Random.{Random}
use Rattle.random.specs.Generator.{word_of, next, uniform_of}
use Rattle.random.specs.Xoshiro.{output, step, stepped}
use Rattle.random.specs.Draw.{run, pick, onward, word_from, until_from, uniform, draw, ◌>>=◌, below, fair}
use Rattle.real.specs.Real as Real
use Rattle.tree.specs.Bounded.{every}
use Rattle.rates.specs.Clock.{clock_fits}
use Rattle.rules.specs.Samples.{0·0, 0·5, 1·0, 2·0, 3·0, example}
use Rattle.calls.specs.Call.{ended}
use Rattle.calls.specs.Change.{on_part, keeps, replying, value_call}
use Rattle.calls.specs.Draws.{scaler}
use Rattle.scales.specs.Scales.{factored}
use Rattle.scales.specs.Rows.{scales_to, declines, refuses, state, start, after_one, upper, upper_one, 0·25, minus_one, greatest, three_scaled}
use Rattle.clocks.specs.Clocks.{clock_limits, clock_sigma, clock_sigma_call, branch_rate_of, branch_rate, branch_rate_call}

-- ---- generators

-- after two draws
abbrev after_two : Random
after_two = state 0xc000_0000_0007 0x40005 0x40005 0x1800_0000

abbrev upper_two : Random
upper_two = state 0x8000_0000_0002 0x8000_0000_0006_0007 0xa0001 0xd000_1000_0000

-- one whose first draw is 0, and after three
abbrev again : Random
again = state 0 1 2 0

abbrev again_three : Random
again_three = state 0x4000_0402_0002 0x2000_0006_0001 0x2004_0004_0001 0x4000_0000_0c00_0080

-- ---- rates, factors and products

abbrev rates : List Float
rates = 3·0 ∷ 2·0 ∷ 1·0 ∷ []

-- the least positive float
abbrev tiny : Float
tiny = of_bits binary64 1

-- the factor of tuning 0.5 at the second draw, and 3 times it
abbrev second_factor : Float
second_factor = of_bits binary64 0x3fe0_0000_0000_a800

abbrev second_scaled : Float
second_scaled = of_bits binary64 0x3ff8_0000_0000_fc00

-- likewise from the generator whose draws are just over a half, and twice it
abbrev upper_factor : Float
upper_factor = of_bits binary64 0x3ff4_0000_0000_3600

abbrev upper_scaled : Float
upper_scaled = of_bits binary64 0x4004_0000_0000_3600

-- likewise at the third draw of the one whose first is 0, and 3 times it
abbrev third_factor : Float
third_factor = of_bits binary64 0x3fe0_0066_0000_3000

abbrev third_scaled : Float
third_scaled = of_bits binary64 0x3ff8_0099_0000_4800

-- ---- the rows

pub record ClockRows : Type 0 where
  -- ClockSigmaScale: sigma times a factor, by one draw
  pub sigma : clock_sigma_call (Some 3·0) rates 0·5 start 1 ≡ scales_to (Some three_scaled) example 1 after_one
  -- "unless finite and positive", after the draw
  pub sigma_to_zero : clock_sigma_call (Some tiny) rates 0·25 start 9 ≡ declines (Some tiny) 1 after_one
  pub sigma_to_infinity : clock_sigma_call (Some greatest) rates 0·5 upper 9 ≡ declines (Some greatest) 1 upper_one
  -- no clock: undrawn, whatever the rates are, within the limits
  pub sigma_missing : clock_sigma_call None (0·0 ∷ []) 0·5 start 9 ≡ declines None 0 start
  pub sigma_missing_tuning : clock_sigma_call None rates 2·0 start 9 ≡ refuses None (Parameter 0) start
  pub sigma_missing_no_draws : clock_sigma_call None rates 0·5 start 0 ≡ refuses None (Parameter 0) start
  -- 5: "clock as `RelaxedClock::new`"
  pub sigma_zero : clock_sigma_call (Some 0·0) rates 0·5 start 9 ≡ refuses (Some 0·0) (Parameter 0) start
  pub sigma_one_rate : clock_sigma_call (Some 3·0) (3·0 ∷ []) 0·5 start 9 ≡ refuses (Some 3·0) (Parameter 0) start
  pub sigma_rate_zero : clock_sigma_call (Some 3·0) (3·0 ∷ 0·0 ∷ []) 0·5 start 9 ≡ refuses (Some 3·0) (Parameter 0) start
  pub sigma_rate_infinite : clock_sigma_call (Some 3·0) (Real.infinity ∷ 3·0 ∷ []) 0·5 start 9 ≡ refuses (Some 3·0) (Parameter 0) start
  pub sigma_tuning : clock_sigma_call (Some 3·0) rates 2·0 start 9 ≡ refuses (Some 3·0) (Parameter 0) start
  pub sigma_no_draws : clock_sigma_call (Some 3·0) rates 0·5 start 0 ≡ refuses (Some 3·0) (Parameter 0) start
  -- BranchRateScale: the first draw is the index, 0 or 1, the second the factor; two are enough
  pub rate_first : branch_rate_call (Some 1·0) rates 0·5 start 2 ≡ scales_to (second_scaled ∷ 2·0 ∷ 1·0 ∷ []) second_factor 2 after_two
  pub rate_second : branch_rate_call (Some 1·0) rates 0·5 upper 9 ≡ scales_to (3·0 ∷ upper_scaled ∷ 1·0 ∷ []) upper_factor 2 upper_two
  -- an index that is drawn again
  pub rate_again : branch_rate_call (Some 1·0) rates 0·5 again 3 ≡ scales_to (third_scaled ∷ 2·0 ∷ 1·0 ∷ []) third_factor 3 again_three
  -- "unless finite and positive", after the draws
  pub rate_to_zero : branch_rate_call (Some 1·0) (tiny ∷ 2·0 ∷ []) 0·25 start 9 ≡ declines (tiny ∷ 2·0 ∷ []) 2 after_two
  pub rate_to_infinity : branch_rate_call (Some 1·0) (1·0 ∷ greatest ∷ []) 0·5 upper 9 ≡ declines (1·0 ∷ greatest ∷ []) 2 upper_two
  -- no clock: undrawn, whatever the rates are, within the limits
  pub rate_missing : branch_rate_call None [] 0·5 start 9 ≡ declines [] 0 start
  pub rate_missing_tuning : branch_rate_call None rates 2·0 start 9 ≡ refuses rates (Parameter 0) start
  -- 5 likewise
  pub rate_sigma_negative : branch_rate_call (Some minus_one) rates 0·5 start 9 ≡ refuses rates (Parameter 0) start
  pub rate_one_rate : branch_rate_call (Some 1·0) (3·0 ∷ []) 0·5 start 9 ≡ refuses (3·0 ∷ []) (Parameter 0) start
  pub rate_tuning : branch_rate_call (Some 1·0) rates 2·0 start 9 ≡ refuses rates (Parameter 0) start
  pub rate_no_draws : branch_rate_call (Some 1·0) rates 0·5 start 0 ≡ refuses rates (Parameter 0) start
  -- 6: the index takes the one draw, or both
  pub rate_spent : branch_rate_call (Some 1·0) rates 0·5 start 1 ≡ refuses rates (Allowance 1) start
  pub rate_again_spent : branch_rate_call (Some 1·0) rates 0·5 again 2 ≡ refuses rates (Allowance 2) again
  pub rate_index_spent : branch_rate_call (Some 1·0) rates 0·5 again 1 ≡ refuses rates (Allowance 1) again

-- each by computation
pub clock-rows : ClockRows
unfolding value_call keeps replying ended run pick onward word_from until_from uniform draw ◌>>=◌ below fair on_part word_of next output step stepped rotl uniform_of scaler
    factored every clock_fits clock_limits clock_sigma branch_rate_of branch_rate
    of_bits lt le add sub mul div round
clock-rows = record {
  sigma = refl;
  sigma_to_zero = refl;
  sigma_to_infinity = refl;
  sigma_missing = refl;
  sigma_missing_tuning = refl;
  sigma_missing_no_draws = refl;
  sigma_zero = refl;
  sigma_one_rate = refl;
  sigma_rate_zero = refl;
  sigma_rate_infinite = refl;
  sigma_tuning = refl;
  sigma_no_draws = refl;
  rate_first = refl;
  rate_second = refl;
  rate_again = refl;
  rate_to_zero = refl;
  rate_to_infinity = refl;
  rate_missing = refl;
  rate_missing_tuning = refl;
  rate_sigma_negative = refl;
  rate_one_rate = refl;
  rate_tuning = refl;
  rate_no_draws = refl;
  rate_spent = refl;
  rate_again_spent = refl;
  rate_index_spent = refl;
}
