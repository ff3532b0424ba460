-- Calls of the scales of parameters as rows of one statement on the definitions (`scale-rows`): what each scales, what it declines with a draw and
-- without, and what turns it back. Of what each call leaves, all is said. Assumes nothing.
use Rattle.std.specs.Prelude.{◌≡◌, refl, [], ◌∷◌, ℕ, negsuc, Float, Some, None}
use Rattle.std.specs.Float.{nan, binary64}
use Rattle.std.specs.Float.Ieee.{of_bits, lt, le, eq, add, sub, mul, div, round}
use Rattle.words.specs.Words.{rotl}
use Rattle.answer.specs.declared.Ratio.TheVariants.{Power}
use Rattle.answer.specs.declared.Refusal.{Refusal}
use Rattle.answer.specs.declared.Refusal.TheVariants.{Parameter}
use Rattle.answer.specs.declared.Proposal.TheVariants as Proposals
use Rattle.random.specs.declared.Random.{Random}
use Rattle.random.specs.Generator.{from_state, word_of, next, uniform_of}
use Rattle.random.specs.Xoshiro.{output, step, stepped}
use Rattle.random.specs.Draw.{run, pick, onward, word_from, uniform, ◌>>=◌}
use Rattle.real.specs.Real as Real
use Rattle.rules.specs.Samples.{0·0, −0·0, 0·5, 1·0, 2·0, 3·0, 5·0, example}
use Rattle.calls.specs.Call.{ended}
use Rattle.calls.specs.Change.{on_part, Proposed, proposed, keeps, replying, value_call}
use Rattle.calls.specs.Draws.{scaler}
use Rattle.speciation.specs.declared.Speciation.TheVariants.{Yule, BirthDeath}
use Rattle.scales.specs.Scales.{factored, scale, scale_limits, scale_call, clock_rate, clock_rate_limits, clock_rate_call, speciation_limits, birth_difference, birth_difference_call, birth_rate, birth_rate_call, relative_death, relative_death_call}

-- ---- what a row says

-- a call leaves v, scaled by f with so many draws, and the generator h: "Scales: k = −1"
abbrev pub scales_to : {P : Type 0} → P → Float → ℕ → Random → Proposed P
scales_to v f draws h = proposed (Proposals.Scaled draws (Power f (negsuc 0))) h v

abbrev pub declines : {P : Type 0} → P → ℕ → Random → Proposed P
declines v draws h = proposed (Proposals.Declined draws) h v

-- it is turned back with v and the generator as they came
abbrev pub refuses : {P : Type 0} → P → Refusal → Random → Proposed P
refuses v why g = proposed (Proposals.Refused why) g v

-- ---- generators

abbrev pub state : ℕ → ℕ → ℕ → ℕ → Random
state a b c d = from_state (a ∷ b ∷ c ∷ d ∷ [])

-- the generator 1,2,3,4, and after a draw; with tuning 0.5 its factor is the one of document 01's example
abbrev pub start : Random
start = state 1 2 3 4

abbrev pub after_one : Random
after_one = state 7 0 0x40002 0xc000_0000_0000

-- one whose first draw is just over a half, and after it
abbrev pub upper : Random
upper = state 0x8000_0000_0000_0000 3 5 7

abbrev pub upper_one : Random
upper_one = state 0x8000_0000_0000_0004 0x8000_0000_0000_0006 0x8000_0000_0006_0005 0x8000_0000_0000

-- ---- floats

abbrev pub 0·25 : Float
0·25 = of_bits binary64 0x3fd0_0000_0000_0000

-- -1
abbrev pub minus_one : Float
minus_one = of_bits binary64 0xbff0_0000_0000_0000

-- the greatest finite float
abbrev pub greatest : Float
greatest = of_bits binary64 0x7fef_ffff_ffff_ffff

-- 3 and 0.5 times the example's factor
abbrev pub three_scaled : Float
three_scaled = of_bits binary64 0x3ff8_0000_0000_b400

abbrev pub half_scaled : Float
half_scaled = of_bits binary64 0x3fd0_0000_0000_7800

-- the factor of tuning 0.5 at the draw just over a half, and twice it
abbrev growing : Float
growing = of_bits binary64 0x3ff4_0000_0000_5a00

abbrev two_grown : Float
two_grown = of_bits binary64 0x4004_0000_0000_5a00

-- the factor of tuning 0.25 at the first draw
abbrev quartering : Float
quartering = of_bits binary64 0x3fd0_0000_0002_5800

-- the factor of tuning 1e-8 there, and 3 times it
abbrev shrinking : Float
shrinking = of_bits binary64 0x3f2d_cdba_e63b_88c1

abbrev three_shrunk : Float
three_shrunk = of_bits binary64 0x3f46_5a4c_2cac_a691

-- the float next below the example's factor
abbrev under_example : Float
under_example = of_bits binary64 0x3fe0_0000_0000_77ff

-- 1e-8, and the float next below it
abbrev least : Float
least = of_bits binary64 0x3e45_798e_e230_8c3a

abbrev under_least : Float
under_least = of_bits binary64 0x3e45_798e_e230_8c39

-- the greatest negative float
abbrev minus_tiny : Float
minus_tiny = of_bits binary64 0x8000_0000_0000_0001

-- ---- the rows

pub record ScaleRows : Type 0 where
  -- a value times a factor, which takes one draw; one is enough
  pub scaled : scale_call 3·0 5·0 0·5 start 9 ≡ scales_to three_scaled example 1 after_one
  pub grown : scale_call 2·0 3·0 0·5 upper 1 ≡ scales_to two_grown growing 1 upper_one
  -- the least tuning and the greatest, the greatest allowance
  pub least_tuning : scale_call 3·0 5·0 least start 65535 ≡ scales_to three_shrunk shrinking 1 after_one
  pub tuning_one : scale_call 3·0 5·0 1·0 start 9 ≡ scales_to 3·0 1·0 1 after_one
  -- "undrawn at 0", of either sign
  pub zero : scale_call 0·0 5·0 0·5 start 9 ≡ declines 0·0 0 start
  pub minus_zero : scale_call −0·0 5·0 0·5 start 9 ≡ declines −0·0 0 start
  -- "outside 0 to the upper end", after the draw; at the end it is not; −0.0 is an end, and a product
  pub above : scale_call 2·0 0·5 0·5 start 9 ≡ declines 2·0 1 after_one
  pub just_above : scale_call 1·0 under_example 0·5 start 9 ≡ declines 1·0 1 after_one
  pub at_end : scale_call 1·0 example 0·5 start 9 ≡ scales_to example example 1 after_one
  pub end_minus_zero : scale_call 1·0 −0·0 0·5 start 9 ≡ declines 1·0 1 after_one
  pub negative : scale_call minus_one 5·0 0·5 start 9 ≡ declines minus_one 1 after_one
  pub to_minus_zero : scale_call minus_tiny 5·0 0·25 start 9 ≡ scales_to −0·0 quartering 1 after_one
  -- 5: the limits of tuning, upper end, value and allowance; of a value of 0 too
  pub tuning_over : scale_call 3·0 5·0 2·0 start 9 ≡ refuses 3·0 (Parameter 0) start
  pub tuning_under : scale_call 3·0 5·0 under_least start 9 ≡ refuses 3·0 (Parameter 0) start
  pub end_negative : scale_call 3·0 minus_one 0·5 start 9 ≡ refuses 3·0 (Parameter 0) start
  pub end_infinite : scale_call 3·0 Real.infinity 0·5 start 9 ≡ refuses 3·0 (Parameter 0) start
  pub value_infinite : scale_call Real.infinity 5·0 0·5 start 9 ≡ refuses Real.infinity (Parameter 0) start
  pub value_nan : scale_call nan 5·0 0·5 start 9 ≡ refuses nan (Parameter 0) start
  pub no_draws : scale_call 3·0 5·0 0·5 start 0 ≡ refuses 3·0 (Parameter 0) start
  pub draws_over : scale_call 3·0 5·0 0·5 start 65536 ≡ refuses 3·0 (Parameter 0) start
  pub zero_refused : scale_call 0·0 5·0 2·0 start 9 ≡ refuses 0·0 (Parameter 0) start
  -- ClockRateScale: its upper end is the greatest finite float; a missing mean is undrawn, within the limits
  pub rate : clock_rate_call (Some 3·0) 0·5 start 9 ≡ scales_to (Some three_scaled) example 1 after_one
  pub rate_greatest : clock_rate_call (Some greatest) 1·0 start 9 ≡ scales_to (Some greatest) 1·0 1 after_one
  pub rate_infinite : clock_rate_call (Some greatest) 0·5 upper 9 ≡ declines (Some greatest) 1 upper_one
  pub rate_zero : clock_rate_call (Some 0·0) 0·5 start 9 ≡ declines (Some 0·0) 0 start
  pub rate_missing : clock_rate_call None 0·5 start 9 ≡ declines None 0 start
  pub rate_missing_tuning : clock_rate_call None 2·0 start 9 ≡ refuses None (Parameter 0) start
  pub rate_missing_no_draws : clock_rate_call None 0·5 start 0 ≡ refuses None (Parameter 0) start
  pub rate_refused : clock_rate_call (Some Real.infinity) 0·5 start 9 ≡ refuses (Some Real.infinity) (Parameter 0) start
  -- BirthDifferenceScale: the first of two rates, the other kind undrawn; the limits of all that is given
  pub difference : birth_difference_call (BirthDeath 3·0 0·5) 5·0 0·5 start 9 ≡ scales_to (BirthDeath three_scaled 0·5) example 1 after_one
  pub difference_above : birth_difference_call (BirthDeath 2·0 0·5) 0·5 0·5 start 9 ≡ declines (BirthDeath 2·0 0·5) 1 after_one
  pub difference_yule : birth_difference_call (Yule 3·0) 5·0 0·5 start 9 ≡ declines (Yule 3·0) 0 start
  pub difference_yule_end : birth_difference_call (Yule 3·0) minus_one 0·5 start 9 ≡ refuses (Yule 3·0) (Parameter 0) start
  pub difference_death_infinite : birth_difference_call (BirthDeath 3·0 Real.infinity) 5·0 0·5 start 9 ≡ refuses (BirthDeath 3·0 Real.infinity) (Parameter 0) start
  -- BirthRateScale: the one rate, the other kind undrawn
  pub birth : birth_rate_call (Yule 3·0) 5·0 0·5 start 9 ≡ scales_to (Yule three_scaled) example 1 after_one
  pub birth_above : birth_rate_call (Yule 2·0) 0·5 0·5 start 9 ≡ declines (Yule 2·0) 1 after_one
  pub birth_other : birth_rate_call (BirthDeath 3·0 0·5) 5·0 0·5 start 9 ≡ declines (BirthDeath 3·0 0·5) 0 start
  pub birth_other_infinite : birth_rate_call (BirthDeath 3·0 Real.infinity) 5·0 0·5 start 9 ≡ refuses (BirthDeath 3·0 Real.infinity) (Parameter 0) start
  -- RelativeDeathScale: the second of two rates, up to 1; the other kind undrawn
  pub death : relative_death_call (BirthDeath 3·0 0·5) 0·5 start 9 ≡ scales_to (BirthDeath 3·0 half_scaled) example 1 after_one
  pub death_at_one : relative_death_call (BirthDeath 3·0 1·0) 1·0 start 9 ≡ scales_to (BirthDeath 3·0 1·0) 1·0 1 after_one
  pub death_above_one : relative_death_call (BirthDeath 3·0 1·0) 0·5 upper 9 ≡ declines (BirthDeath 3·0 1·0) 1 upper_one
  pub death_zero : relative_death_call (BirthDeath 3·0 0·0) 0·5 start 9 ≡ declines (BirthDeath 3·0 0·0) 0 start
  pub death_yule : relative_death_call (Yule 3·0) 0·5 start 9 ≡ declines (Yule 3·0) 0 start
  pub death_yule_infinite : relative_death_call (Yule Real.infinity) 0·5 start 9 ≡ refuses (Yule Real.infinity) (Parameter 0) start
  pub death_difference_infinite : relative_death_call (BirthDeath Real.infinity 0·5) 0·5 start 9 ≡ refuses (BirthDeath Real.infinity 0·5) (Parameter 0) start

-- each by computation
pub scale-rows : ScaleRows
unfolding value_call keeps replying ended run pick onward word_from uniform ◌>>=◌ on_part word_of next output step stepped rotl uniform_of scaler
    factored scale scale_limits clock_rate clock_rate_limits speciation_limits birth_difference birth_rate relative_death
    of_bits lt le eq add sub mul div round
scale-rows = record {
  scaled = refl;
  grown = refl;
  least_tuning = refl;
  tuning_one = refl;
  zero = refl;
  minus_zero = refl;
  above = refl;
  just_above = refl;
  at_end = refl;
  end_minus_zero = refl;
  negative = refl;
  to_minus_zero = refl;
  tuning_over = refl;
  tuning_under = refl;
  end_negative = refl;
  end_infinite = refl;
  value_infinite = refl;
  value_nan = refl;
  no_draws = refl;
  draws_over = refl;
  zero_refused = refl;
  rate = refl;
  rate_greatest = refl;
  rate_infinite = refl;
  rate_zero = refl;
  rate_missing = refl;
  rate_missing_tuning = refl;
  rate_missing_no_draws = refl;
  rate_refused = refl;
  difference = refl;
  difference_above = refl;
  difference_yule = refl;
  difference_yule_end = refl;
  difference_death_infinite = refl;
  birth = refl;
  birth_above = refl;
  birth_other = refl;
  birth_other_infinite = refl;
  death = refl;
  death_at_one = refl;
  death_above_one = refl;
  death_zero = refl;
  death_yule = refl;
  death_yule_infinite = refl;
  death_difference_infinite = refl;
}
