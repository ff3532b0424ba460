-- Priors and processes as rows of one statement on the definitions (`process-rows`): which priors are in order, what is estimated, and what is finite. Assumes
-- nothing.
use Rattle.std.specs.Prelude.{◌≡◌, refl, true, false, Float, Option, Some, None, Result, Ok, Err}
use Rattle.std.specs.Float.{nan, binary64}
use Rattle.std.specs.Float.Ieee.{of_bits, lt, le}
use Rattle.answer.specs.declared.Refusal.TheVariants.{Parameter}
use Rattle.real.specs.Real as Real
use Rattle.rules.specs.Samples.{0·0, 1·0, 2·0}
use Rattle.kinds.specs.declared.Move.TheVariants as Moves
use Rattle.process.specs.declared.FossilizedBirthDeath.{FossilizedBirthDeath}
use Rattle.process.specs.declared.ProcessPriors.{ProcessPriors}
use Rattle.process.specs.Process.{estimates, priors_fit, priors_call, priors_finite, process_finite}
use Rattle.answer.specs.declared.Refusal.{Refusal}

-- ---- floats

-- -1
abbrev minus_one : Float
minus_one = of_bits binary64 0xbff0_0000_0000_0000

-- 0.001 and 1000, and the floats next outside
abbrev least_shape : Float
least_shape = of_bits binary64 0x3f50_624d_d2f1_a9fc

abbrev greatest_shape : Float
greatest_shape = of_bits binary64 0x408f_4000_0000_0000

abbrev under_least : Float
under_least = of_bits binary64 0x3f50_624d_d2f1_a9fb

abbrev over_greatest : Float
over_greatest = of_bits binary64 0x408f_4000_0000_0001

-- ---- priors and processes, by the order of their fields

abbrev priors : Option Float → Option Float → Option Float → Option (Float × Float) → Option Float → ProcessPriors
priors birth death sampling shapes origin = record {
  birth_rate_mean = birth;
  death_rate_mean = death;
  fossil_sampling_rate_mean = sampling;
  present_sampling_beta = shapes;
  origin_excess_mean = origin;
}

abbrev process : Float → Float → Float → Float → Float → FossilizedBirthDeath
process birth death sampling present origin =
    record { birth = birth; death = death; fossil_sampling = sampling; present_sampling = present; origin = origin }

abbrev refusal : Result (Unit {0}) Refusal
refusal = Err (Parameter 0)

-- ---- the rows

pub record ProcessRows : Type 0 where
  -- one parameter with a prior is enough
  pub birth_alone : priors_call (priors (Some 1·0) None None None None) ≡ (Ok tt)
  pub death_alone : priors_call (priors None (Some 1·0) None None None) ≡ (Ok tt)
  pub sampling_alone : priors_call (priors None None (Some 1·0) None None) ≡ (Ok tt)
  pub origin_alone : priors_call (priors None None None None (Some 1·0)) ≡ (Ok tt)
  pub present_alone : priors_call (priors None None None (Some (1·0, 2·0)) None) ≡ (Ok tt)
  pub no_prior : priors_call (priors None None None None None) ≡ refusal
  -- a mean is finite and positive
  pub birth_zero : priors_call (priors (Some 0·0) None None None None) ≡ refusal
  pub death_negative : priors_call (priors (Some 1·0) (Some minus_one) None None None) ≡ refusal
  pub sampling_infinite : priors_call (priors (Some 1·0) None (Some Real.infinity) None None) ≡ refusal
  pub origin_nan : priors_call (priors (Some 1·0) None None None (Some nan)) ≡ refusal
  pub origin_zero : priors_call (priors (Some 1·0) None None None (Some 0·0)) ≡ refusal
  -- a shape is from 0.001 to 1000
  pub shapes_at_ends : priors_call (priors None None None (Some (least_shape, greatest_shape)) None) ≡ (Ok tt)
  pub shapes_at_other_ends : priors_call (priors None None None (Some (greatest_shape, least_shape)) None) ≡ (Ok tt)
  pub first_under : priors_call (priors None None None (Some (under_least, 1·0)) None) ≡ refusal
  pub second_under : priors_call (priors None None None (Some (1·0, under_least)) None) ≡ refusal
  pub first_over : priors_call (priors None None None (Some (over_greatest, 1·0)) None) ≡ refusal
  pub second_over : priors_call (priors None None None (Some (1·0, over_greatest)) None) ≡ refusal
  pub shape_nan : priors_call (priors None None None (Some (nan, 1·0)) None) ≡ refusal
  pub shape_nan_with_mean : priors_call (priors (Some 1·0) None None (Some (1·0, nan)) None) ≡ refusal
  -- each process move asks for the prior of its own field, and no other move has one
  pub birth_estimated : estimates (priors (Some 1·0) None None None None) Moves.FbdBirthScale ≡ true
  pub birth_fixed : estimates (priors None (Some 1·0) (Some 1·0) (Some (1·0, 2·0)) (Some 1·0)) Moves.FbdBirthScale ≡ false
  pub death_estimated : estimates (priors None (Some 1·0) None None None) Moves.FbdDeathScale ≡ true
  pub death_fixed : estimates (priors (Some 1·0) None (Some 1·0) (Some (1·0, 2·0)) (Some 1·0)) Moves.FbdDeathScale ≡ false
  pub sampling_estimated : estimates (priors None None (Some 1·0) None None) Moves.FbdSamplingScale ≡ true
  pub sampling_fixed : estimates (priors (Some 1·0) (Some 1·0) None (Some (1·0, 2·0)) (Some 1·0)) Moves.FbdSamplingScale ≡ false
  pub present_estimated : estimates (priors None None None (Some (1·0, 2·0)) None) Moves.FbdRhoLogit ≡ true
  pub present_fixed : estimates (priors (Some 1·0) (Some 1·0) (Some 1·0) None (Some 1·0)) Moves.FbdRhoLogit ≡ false
  pub origin_estimated : estimates (priors None None None None (Some 1·0)) Moves.FbdOriginScale ≡ true
  pub origin_fixed : estimates (priors (Some 1·0) (Some 1·0) (Some 1·0) (Some (1·0, 2·0)) None) Moves.FbdOriginScale ≡ false
  pub other_move : estimates (priors (Some 1·0) (Some 1·0) (Some 1·0) (Some (1·0, 2·0)) (Some 1·0)) Moves.BirthRateScale ≡ false
  -- finite: all that is given, and every field
  pub finite_negative : priors_finite (priors (Some minus_one) None None (Some (minus_one, 0·0)) None) ≡ true
  pub mean_infinite_birth : priors_finite (priors (Some Real.infinity) None None None None) ≡ false
  pub mean_infinite_death : priors_finite (priors None (Some Real.infinity) None None None) ≡ false
  pub mean_infinite_sampling : priors_finite (priors None None (Some Real.infinity) None None) ≡ false
  pub mean_infinite_origin : priors_finite (priors None None None None (Some Real.infinity)) ≡ false
  pub first_shape_infinite : priors_finite (priors None None None (Some (Real.infinity, 1·0)) None) ≡ false
  pub second_shape_nan : priors_finite (priors None None None (Some (1·0, nan)) None) ≡ false
  pub fields_finite : process_finite (process 1·0 minus_one 0·0 2·0 1·0) ≡ true
  pub field_birth : process_finite (process Real.infinity 1·0 1·0 1·0 1·0) ≡ false
  pub field_death : process_finite (process 1·0 nan 1·0 1·0 1·0) ≡ false
  pub field_sampling : process_finite (process 1·0 1·0 Real.infinity 1·0 1·0) ≡ false
  pub field_present : process_finite (process 1·0 1·0 1·0 nan 1·0) ≡ false
  pub field_origin : process_finite (process 1·0 1·0 1·0 1·0 Real.infinity) ≡ false

-- each by computation
pub process-rows : ProcessRows
unfolding priors_fit priors_call priors_finite process_finite of_bits lt le
process-rows = record {
  birth_alone = refl;
  death_alone = refl;
  sampling_alone = refl;
  origin_alone = refl;
  present_alone = refl;
  no_prior = refl;
  birth_zero = refl;
  death_negative = refl;
  sampling_infinite = refl;
  origin_nan = refl;
  origin_zero = refl;
  shapes_at_ends = refl;
  shapes_at_other_ends = refl;
  first_under = refl;
  second_under = refl;
  first_over = refl;
  second_over = refl;
  shape_nan = refl;
  shape_nan_with_mean = refl;
  birth_estimated = refl;
  birth_fixed = refl;
  death_estimated = refl;
  death_fixed = refl;
  sampling_estimated = refl;
  sampling_fixed = refl;
  present_estimated = refl;
  present_fixed = refl;
  origin_estimated = refl;
  origin_fixed = refl;
  other_move = refl;
  finite_negative = refl;
  mean_infinite_birth = refl;
  mean_infinite_death = refl;
  mean_infinite_sampling = refl;
  mean_infinite_origin = refl;
  first_shape_infinite = refl;
  second_shape_nan = refl;
  fields_finite = refl;
  field_birth = refl;
  field_death = refl;
  field_sampling = refl;
  field_present = refl;
  field_origin = refl;
}
