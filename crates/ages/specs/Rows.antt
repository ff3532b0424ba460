-- The rules on a tip's ages, and the call on a table by itself, as rows of one statement on the definitions (`age-rows`). Assumes nothing.
use Rattle.std.specs.Prelude.{◌≡◌, refl, Bool, true, false, [], ◌∷◌, Float, Ok, Err}
use Rattle.std.specs.Float.{nan, binary64}
use Rattle.std.specs.Float.Ieee.{of_bits, lt, le, eq}
use Rattle.answer.specs.declared.Refusal.TheVariants.{Size, Parameter}
use Rattle.real.specs.Real as Real
use Rattle.tree.specs.New.{lowest}
use Rattle.rules.specs.Samples.{0·0, −0·0, 0·5, 1·0, 2·0}
use Rattle.process.specs.declared.FossilizedBirthDeath.{FossilizedBirthDeath}
use Rattle.process.specs.Process.{process_finite}
use Rattle.ages.specs.Ages.{misaged, unsampled, at_fault, table_call}

-- ---- floats and processes

-- 10, 11, the float next below 10, and -1
abbrev pub 10·0 : Float
10·0 = of_bits binary64 0x4024_0000_0000_0000

abbrev pub 11·0 : Float
11·0 = of_bits binary64 0x4026_0000_0000_0000

abbrev pub under_ten : Float
under_ten = of_bits binary64 0x4023_ffff_ffff_ffff

abbrev pub minus_one : Float
minus_one = of_bits binary64 0xbff0_0000_0000_0000

-- an origin of 10, with a birth rate and a present sampling
abbrev pub process : Float → Float → FossilizedBirthDeath
process birth sampling = record { birth = birth; death = 0·5; fossil_sampling = 0·5; present_sampling = sampling; origin = 10·0 }

-- whether a tip of these ages is at fault, where so much is sampled at the present
abbrev pub Faulty : Float → Float → Float → Bool
Faulty least greatest sampling = at_fault (process 1·0 sampling) (least ∷ []) (greatest ∷ []) 0

-- ---- the rows

pub record AgeRows : Type 0 where
  -- at fault: an end that is not finite, a negative age, crossed ends, an age at the origin or past it, an interval that includes the present, and a tip at the
  -- present where nothing is sampled there
  pub least_nan : Faulty nan 1·0 0·5 ≡ true
  pub greatest_infinite : Faulty 1·0 Real.infinity 0·5 ≡ true
  pub negative : Faulty minus_one 1·0 0·5 ≡ true
  pub crossed : Faulty 2·0 1·0 0·5 ≡ true
  pub at_origin : Faulty 1·0 10·0 0·5 ≡ true
  pub past_origin : Faulty 1·0 11·0 0·5 ≡ true
  pub with_present : Faulty 0·0 1·0 0·5 ≡ true
  pub unsampled : Faulty 0·0 0·0 0·0 ≡ true
  pub unsampled_minus : Faulty −0·0 0·0 −0·0 ≡ true
  -- in order: a zero of either sign, a fixed age, an interval just under the origin, and fossils where nothing is sampled at the present
  pub fixed_zero : Faulty 0·0 0·0 0·5 ≡ false
  pub fixed_minus_zero : Faulty −0·0 −0·0 0·5 ≡ false
  pub fixed : Faulty 2·0 2·0 0·5 ≡ false
  pub under_origin : Faulty 1·0 under_ten 0·5 ≡ false
  pub fossil_unsampled : Faulty 1·0 2·0 0·0 ≡ false
  pub all_sampled : Faulty 0·0 0·0 1·0 ≡ false
  -- the call: the number of nodes, the lengths of the table, its tips, then the fields of the process
  pub even_count : table_call 4 (2·0 ∷ 0·0 ∷ []) (1·0 ∷ 0·0 ∷ []) (process 1·0 0·5) ≡ Err (Size 4)
  pub short_table : table_call 5 (0·0 ∷ 2·0 ∷ []) (0·0 ∷ 1·0 ∷ 0·0 ∷ []) (process 1·0 0·5) ≡ Err (Size 5)
  pub short_greatest : table_call 5 (0·0 ∷ 0·0 ∷ 0·0 ∷ []) (0·0 ∷ 0·0 ∷ []) (process 1·0 0·5) ≡ Err (Size 5)
  pub fine_table : table_call 3 (0·0 ∷ 0·0 ∷ []) (0·0 ∷ 0·0 ∷ []) (process 1·0 0·5) ≡ (Ok tt)
  pub field_infinite : table_call 3 (0·0 ∷ 0·0 ∷ []) (0·0 ∷ 0·0 ∷ []) (process Real.infinity 0·5) ≡ Err (Parameter 0)
  pub tip_first : table_call 3 (0·0 ∷ 2·0 ∷ []) (0·0 ∷ 1·0 ∷ []) (process Real.infinity 0·5) ≡ Err (Parameter 1)
  -- the tip that is named: the first of two by one rule, the last alone, and the first of two by different rules, whichever of them comes first
  pub lowest_of_two : table_call 5 (0·0 ∷ 2·0 ∷ 2·0 ∷ []) (0·0 ∷ 1·0 ∷ 1·0 ∷ []) (process 1·0 0·5) ≡ Err (Parameter 1)
  pub last_alone : table_call 5 (0·0 ∷ 0·0 ∷ 2·0 ∷ []) (0·0 ∷ 0·0 ∷ 1·0 ∷ []) (process 1·0 0·5) ≡ Err (Parameter 2)
  pub ages_then_sampling : table_call 5 (1·0 ∷ 2·0 ∷ 0·0 ∷ []) (1·0 ∷ 1·0 ∷ 0·0 ∷ []) (process 1·0 0·0) ≡ Err (Parameter 1)
  pub sampling_then_ages : table_call 5 (1·0 ∷ 0·0 ∷ 2·0 ∷ []) (1·0 ∷ 0·0 ∷ 1·0 ∷ []) (process 1·0 0·0) ≡ Err (Parameter 1)

-- each by computation
pub age-rows : AgeRows
unfolding at_fault misaged unsampled lowest table_call process_finite of_bits lt le eq
age-rows = record {
  least_nan = refl;
  greatest_infinite = refl;
  negative = refl;
  crossed = refl;
  at_origin = refl;
  past_origin = refl;
  with_present = refl;
  unsampled = refl;
  unsampled_minus = refl;
  fixed_zero = refl;
  fixed_minus_zero = refl;
  fixed = refl;
  under_origin = refl;
  fossil_unsampled = refl;
  all_sampled = refl;
  even_count = refl;
  short_table = refl;
  short_greatest = refl;
  fine_table = refl;
  field_infinite = refl;
  tip_first = refl;
  lowest_of_two = refl;
  last_alone = refl;
  ages_then_sampling = refl;
  sampling_then_ages = refl;
}
