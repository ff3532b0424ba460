-- Calls of the plain scales of a process as rows of one statement on the definitions (`field-rows`): what each scales, what it declines with its draw
-- and without, and what turns it back. Of what each call leaves, all is said. Assumes nothing.
use Rattle.std.specs.Prelude.{◌≡◌, refl, Float, Option, Some, None}
use Rattle.std.specs.Float.{binary64}
use Rattle.std.specs.Float.Ieee.{of_bits, lt, le, add, sub, mul, div, round}
use Rattle.words.specs.Words.{rotl}
use Rattle.answer.specs.declared.Refusal.TheVariants.{Parameter}
use Rattle.random.specs.Generator.{word_of, next, uniform_of}
use Rattle.random.specs.Xoshiro.{output, step, stepped}
use Rattle.random.specs.Draw.{run, pick, onward, word_from, uniform, ◌>>=◌}
use Rattle.real.specs.Real as Real
use Rattle.process.specs.declared.FossilizedBirthDeath.{FossilizedBirthDeath}
use Rattle.process.specs.declared.ProcessPriors.{ProcessPriors}
use Rattle.process.specs.Process.{priors_finite, process_finite}
use Rattle.rules.specs.Samples.{0·0, −0·0, 0·5, 1·0, 2·0, 2·5, 3·0, 5·0, example, example_root}
use Rattle.calls.specs.Call.{ended}
use Rattle.calls.specs.Change.{on_part, keeps, replying, value_call}
use Rattle.calls.specs.Draws.{scaler}
use Rattle.scales.specs.Scales.{factored}
use Rattle.scales.specs.Rows.{scales_to, declines, refuses, start, after_one, upper, upper_one, minus_one, greatest, three_scaled, half_scaled}
use Rattle.fields.specs.declared.Field.TheVariants.{Birth, Death, FossilSampling, Origin}
use Rattle.fields.specs.Fields.{shifted, field, fbd, fbd_limits, fbd_call}

-- ---- processes and priors

-- birth, death, fossil sampling, present sampling, origin
abbrev process : Float → Float → Float → Float → Float → FossilizedBirthDeath
process b d s p o = record { birth = b; death = d; fossil_sampling = s; present_sampling = p; origin = o }

abbrev priors : Option Float → Option Float → Option Float → Option (Float × Float) → Option Float → ProcessPriors
priors b d s p o = record { birth_rate_mean = b; death_rate_mean = d; fossil_sampling_rate_mean = s; present_sampling_beta = p; origin_excess_mean = o }

-- a mean that is given, and one that is not
abbrev given : Option Float
given = Some 1·0

abbrev fixed : Option Float
fixed = None

-- one parameter is estimated, or all but one
abbrev birth_only : ProcessPriors
birth_only = priors given fixed fixed None fixed

abbrev death_only : ProcessPriors
death_only = priors fixed given fixed None fixed

abbrev sampling_only : ProcessPriors
sampling_only = priors fixed fixed given None fixed

abbrev origin_only : ProcessPriors
origin_only = priors fixed fixed fixed None given

abbrev all_but_birth : ProcessPriors
all_but_birth = priors fixed given given (Some (1·0, 1·0)) given

abbrev all_but_origin : ProcessPriors
all_but_origin = priors given given given (Some (1·0, 1·0)) fixed

-- the process of most rows, and with another origin
abbrev from : Float → FossilizedBirthDeath
from origin = process 3·0 0·5 2·0 1·0 origin

abbrev plain : FossilizedBirthDeath
plain = from 5·0

-- one with an infinite field that is not scaled
abbrev unbounded : FossilizedBirthDeath
unbounded = process 3·0 0·5 2·0 Real.infinity 5·0

-- ---- products

-- 1 + (5 − 1)·f and 5·f, f being the example's factor
abbrev origin_scaled : Float
origin_scaled = of_bits binary64 0x4008_0000_0000_7800

abbrev five_scaled : Float
five_scaled = of_bits binary64 0x4004_0000_0000_9600

-- 0.75 and 0.1
abbrev late : Float
late = of_bits binary64 0x3fe8_0000_0000_0000

abbrev tenth : Float
tenth = of_bits binary64 0x3fb9_9999_9999_999a

-- the factor f of tuning 0.75 at a draw just over a half, and 0.1 + (3 − 0.1)·f
abbrev rounded : Float
rounded = of_bits binary64 0x3ff0_aaaa_aaaa_cdaa

abbrev origin_rounded_to : Float
origin_rounded_to = of_bits binary64 0x4008_f777_7777_aa36

-- ---- the rows

pub record FieldRows : Type 0 where
  -- each its own field, by one draw, where that is estimated; the offset is for the origin alone
  pub birth : fbd_call Birth birth_only plain 1·0 0·5 start 9 ≡ scales_to (process three_scaled 0·5 2·0 1·0 5·0) example 1 after_one
  pub death : fbd_call Death death_only plain 1·0 0·5 start 1 ≡ scales_to (process 3·0 half_scaled 2·0 1·0 5·0) example 1 after_one
  pub sampling : fbd_call FossilSampling sampling_only plain 1·0 0·5 start 9 ≡ scales_to (process 3·0 0·5 example_root 1·0 5·0) example 1 after_one
  pub origin : fbd_call Origin origin_only plain 1·0 0·5 start 9 ≡ scales_to (from origin_scaled) example 1 after_one
  pub origin_no_offset : fbd_call Origin origin_only plain −0·0 0·5 start 9 ≡ scales_to (from five_scaled) example 1 after_one
  pub origin_rounded : fbd_call Origin origin_only (from 3·0) tenth late upper 9 ≡ scales_to (from origin_rounded_to) rounded 1 upper_one
  -- "unless finite and above shift", after the draw
  pub origin_level : fbd_call Origin origin_only (from 2·5) 2·5 0·5 start 9 ≡ declines (from 2·5) 1 after_one
  pub origin_under : fbd_call Origin origin_only (from 2·0) 2·5 0·5 start 9 ≡ declines (from 2·0) 1 after_one
  pub origin_infinite : fbd_call Origin origin_only (from greatest) 0·0 0·5 upper 9 ≡ declines (from greatest) 1 upper_one
  pub death_zero : fbd_call Death death_only (process 3·0 0·0 2·0 1·0 5·0) 1·0 0·5 start 9 ≡ declines (process 3·0 0·0 2·0 1·0 5·0) 1 after_one
  pub birth_negative : fbd_call Birth birth_only (process minus_one 0·5 2·0 1·0 5·0) 1·0 0·5 start 9 ≡ declines (process minus_one 0·5 2·0 1·0 5·0) 1 after_one
  -- not estimated: undrawn, within the limits
  pub birth_fixed : fbd_call Birth all_but_birth plain 1·0 0·5 start 9 ≡ declines plain 0 start
  pub origin_fixed : fbd_call Origin all_but_origin plain 1·0 0·5 start 9 ≡ declines plain 0 start
  pub fixed_tuning : fbd_call Birth all_but_birth plain 1·0 2·0 start 9 ≡ refuses plain (Parameter 0) start
  pub fixed_no_draws : fbd_call Birth all_but_birth plain 1·0 0·5 start 0 ≡ refuses plain (Parameter 0) start
  -- 5: "parameters and process fields finite", the scaled one or not, and the priors; a negative mean is finite
  pub field_infinite : fbd_call Birth birth_only unbounded 1·0 0·5 start 9 ≡ refuses unbounded (Parameter 0) start
  pub origin_refused : fbd_call Origin origin_only (from Real.infinity) 1·0 0·5 start 9 ≡ refuses (from Real.infinity) (Parameter 0) start
  pub mean_infinite : fbd_call Birth (priors given fixed fixed None (Some Real.infinity)) plain 1·0 0·5 start 9 ≡ refuses plain (Parameter 0) start
  pub shape_infinite : fbd_call Birth (priors given fixed fixed (Some (1·0, Real.infinity)) fixed) plain 1·0 0·5 start 9 ≡ refuses plain (Parameter 0) start
  pub mean_negative : fbd_call Birth (priors (Some minus_one) fixed fixed None fixed) plain 1·0 0·5 start 9 ≡ scales_to (process three_scaled 0·5 2·0 1·0 5·0) example 1 after_one
  -- 5: "upper ends and offset finite, not negative", for any field; tuning and allowance
  pub offset_negative : fbd_call Birth birth_only plain minus_one 0·5 start 9 ≡ refuses plain (Parameter 0) start
  pub offset_infinite : fbd_call Origin origin_only plain Real.infinity 0·5 start 9 ≡ refuses plain (Parameter 0) start
  pub tuning_over : fbd_call Origin origin_only plain 1·0 2·0 start 9 ≡ refuses plain (Parameter 0) start
  pub no_draws : fbd_call Origin origin_only plain 1·0 0·5 start 0 ≡ refuses plain (Parameter 0) start

-- each by computation
pub field-rows : FieldRows
unfolding value_call keeps replying ended run pick onward word_from uniform ◌>>=◌ on_part word_of next output step stepped rotl uniform_of scaler
    factored shifted field fbd fbd_limits priors_finite process_finite of_bits lt le add sub mul div round
field-rows = record {
  birth = refl;
  death = refl;
  sampling = refl;
  origin = refl;
  origin_no_offset = refl;
  origin_rounded = refl;
  origin_level = refl;
  origin_under = refl;
  origin_infinite = refl;
  death_zero = refl;
  birth_negative = refl;
  birth_fixed = refl;
  origin_fixed = refl;
  fixed_tuning = refl;
  fixed_no_draws = refl;
  field_infinite = refl;
  origin_refused = refl;
  mean_infinite = refl;
  shape_infinite = refl;
  mean_negative = refl;
  offset_negative = refl;
  offset_infinite = refl;
  tuning_over = refl;
  no_draws = refl;
}
