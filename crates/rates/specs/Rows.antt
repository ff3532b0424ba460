-- Calls with a clock as rows of one statement on the definitions (`rate-rows`): what is a clock, the rate of a branch, and what is stored. Assumes nothing.
use Rattle.std.specs.Prelude.{◌≡◌, refl, true, false, [], ◌∷◌, Float, Result, Ok, Err, Bool}
use Rattle.std.specs.Float.{nan, binary64}
use Rattle.std.specs.Float.Ieee.{of_bits, lt}
use Rattle.answer.specs.declared.Refusal.TheVariants.{Parameter}
use Rattle.real.specs.Real as Real
use Rattle.tree.specs.Bounded.{every}
use Rattle.rates.specs.declared.SigmaSet.{SigmaSet}
use Rattle.rates.specs.Clock.{clock_fits, new_call, rate_of, branch_rate_call, set_sigma_call, rate_set, set_rate_call}
use Rattle.answer.specs.declared.Refusal.{Refusal}

-- ---- floats

abbrev 0·0 : Float
0·0 = of_bits binary64 0

-- -0.0
abbrev −0·0 : Float
−0·0 = of_bits binary64 0x8000_0000_0000_0000

abbrev 0·5 : Float
0·5 = of_bits binary64 0x3fe0_0000_0000_0000

abbrev 1·0 : Float
1·0 = of_bits binary64 0x3ff0_0000_0000_0000

abbrev 2·0 : Float
2·0 = of_bits binary64 0x4000_0000_0000_0000

abbrev 3·0 : Float
3·0 = of_bits binary64 0x4008_0000_0000_0000

-- -1
abbrev minus_one : Float
minus_one = of_bits binary64 0xbff0_0000_0000_0000

-- ---- answers

abbrev refusal : Result (Unit {0}) Refusal
refusal = Err (Parameter 0)

abbrev sigma_set : Result Bool Refusal → Float → SigmaSet
sigma_set stored sigma = record { stored = stored; sigma = sigma }

-- ---- the rows

pub record RateRows : Type 0 where
  -- a clock: two rates or more, all finite and positive, and sigma too
  pub clock : new_call 0·5 (1·0 ∷ 2·0 ∷ []) ≡ (Ok tt)
  pub one_rate : new_call 0·5 (1·0 ∷ []) ≡ refusal
  pub sigma_zero : new_call 0·0 (1·0 ∷ 2·0 ∷ []) ≡ refusal
  pub sigma_negative : new_call minus_one (1·0 ∷ 2·0 ∷ []) ≡ refusal
  pub sigma_infinite : new_call Real.infinity (1·0 ∷ 2·0 ∷ []) ≡ refusal
  pub sigma_nan : new_call nan (1·0 ∷ 2·0 ∷ []) ≡ refusal
  pub rate_zero : new_call 0·5 (1·0 ∷ 0·0 ∷ []) ≡ refusal
  pub rate_negative : new_call 0·5 (1·0 ∷ minus_one ∷ []) ≡ refusal
  pub rate_infinite : new_call 0·5 (1·0 ∷ Real.infinity ∷ []) ≡ refusal
  pub rate_nan : new_call 0·5 (1·0 ∷ nan ∷ []) ≡ refusal
  -- a node's rate, the root's place for the last node, and 1 for the root itself
  pub own_place : branch_rate_call 0·5 (1·0 ∷ 2·0 ∷ 0·5 ∷ []) 1 3 ≡ Ok 2·0
  pub roots_place : branch_rate_call 0·5 (1·0 ∷ 2·0 ∷ 0·5 ∷ []) 3 1 ≡ Ok 2·0
  pub root_one : branch_rate_call 0·5 (1·0 ∷ 2·0 ∷ 0·5 ∷ []) 2 2 ≡ Ok 1·0
  pub last_root_one : branch_rate_call 0·5 (1·0 ∷ 2·0 ∷ 0·5 ∷ []) 3 3 ≡ Ok 1·0
  pub node_above : branch_rate_call 0·5 (1·0 ∷ 2·0 ∷ 0·5 ∷ []) 4 1 ≡ Err (Parameter 0)
  pub root_above : branch_rate_call 0·5 (1·0 ∷ 2·0 ∷ 0·5 ∷ []) 1 4 ≡ Err (Parameter 0)
  pub rate_of_no_clock : branch_rate_call 0·0 (1·0 ∷ 2·0 ∷ 0·5 ∷ []) 1 3 ≡ Err (Parameter 0)
  -- sigma is stored where it is finite and positive
  pub sigma_stored : set_sigma_call 0·5 (1·0 ∷ 2·0 ∷ []) 2·0 ≡ sigma_set (Ok true) 2·0
  pub sigma_zero_kept : set_sigma_call 0·5 (1·0 ∷ 2·0 ∷ []) 0·0 ≡ sigma_set (Ok false) 0·5
  pub sigma_minus_zero_kept : set_sigma_call 0·5 (1·0 ∷ 2·0 ∷ []) −0·0 ≡ sigma_set (Ok false) 0·5
  pub sigma_negative_kept : set_sigma_call 0·5 (1·0 ∷ 2·0 ∷ []) minus_one ≡ sigma_set (Ok false) 0·5
  pub sigma_infinite_kept : set_sigma_call 0·5 (1·0 ∷ 2·0 ∷ []) Real.infinity ≡ sigma_set (Ok false) 0·5
  pub sigma_nan_kept : set_sigma_call 0·5 (1·0 ∷ 2·0 ∷ []) nan ≡ sigma_set (Ok false) 0·5
  pub sigma_of_no_clock : set_sigma_call 0·5 (1·0 ∷ []) 2·0 ≡ sigma_set (Err (Parameter 0)) 0·5
  -- a rate likewise, at an index below the count
  pub first_stored : set_rate_call 0·5 (1·0 ∷ 2·0 ∷ 0·5 ∷ []) 0 3·0 ≡ rate_set (Ok true) (3·0 ∷ 2·0 ∷ 0·5 ∷ [])
  pub last_stored : set_rate_call 0·5 (1·0 ∷ 2·0 ∷ 0·5 ∷ []) 2 3·0 ≡ rate_set (Ok true) (1·0 ∷ 2·0 ∷ 3·0 ∷ [])
  pub rate_zero_kept : set_rate_call 0·5 (1·0 ∷ 2·0 ∷ 0·5 ∷ []) 1 0·0 ≡ rate_set (Ok false) (1·0 ∷ 2·0 ∷ 0·5 ∷ [])
  pub rate_infinite_kept : set_rate_call 0·5 (1·0 ∷ 2·0 ∷ 0·5 ∷ []) 1 Real.infinity ≡ rate_set (Ok false) (1·0 ∷ 2·0 ∷ 0·5 ∷ [])
  pub rate_nan_kept : set_rate_call 0·5 (1·0 ∷ 2·0 ∷ 0·5 ∷ []) 1 nan ≡ rate_set (Ok false) (1·0 ∷ 2·0 ∷ 0·5 ∷ [])
  pub index_at_count : set_rate_call 0·5 (1·0 ∷ 2·0 ∷ 0·5 ∷ []) 3 3·0 ≡ rate_set (Err (Parameter 0)) (1·0 ∷ 2·0 ∷ 0·5 ∷ [])
  pub index_at_count_nan : set_rate_call 0·5 (1·0 ∷ 2·0 ∷ 0·5 ∷ []) 3 nan ≡ rate_set (Err (Parameter 0)) (1·0 ∷ 2·0 ∷ 0·5 ∷ [])
  pub set_of_no_clock : set_rate_call nan (1·0 ∷ 2·0 ∷ 0·5 ∷ []) 0 3·0 ≡ rate_set (Err (Parameter 0)) (1·0 ∷ 2·0 ∷ 0·5 ∷ [])

-- each by computation
pub rate-rows : RateRows
unfolding clock_fits new_call rate_of branch_rate_call set_sigma_call set_rate_call every of_bits lt
rate-rows = record {
  clock = refl;
  one_rate = refl;
  sigma_zero = refl;
  sigma_negative = refl;
  sigma_infinite = refl;
  sigma_nan = refl;
  rate_zero = refl;
  rate_negative = refl;
  rate_infinite = refl;
  rate_nan = refl;
  own_place = refl;
  roots_place = refl;
  root_one = refl;
  last_root_one = refl;
  node_above = refl;
  root_above = refl;
  rate_of_no_clock = refl;
  sigma_stored = refl;
  sigma_zero_kept = refl;
  sigma_minus_zero_kept = refl;
  sigma_negative_kept = refl;
  sigma_infinite_kept = refl;
  sigma_nan_kept = refl;
  sigma_of_no_clock = refl;
  first_stored = refl;
  last_stored = refl;
  rate_zero_kept = refl;
  rate_infinite_kept = refl;
  rate_nan_kept = refl;
  index_at_count = refl;
  index_at_count_nan = refl;
  set_of_no_clock = refl;
}
