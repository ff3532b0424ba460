-- The starred rows of document 01's "Tree F" on the generator, as one record, which the statement of all starred rows can hold as a field.
-- Assumes nothing.
use Rattle.std.specs.Prelude.{◌≡◌, ℕ, ◌≤◌, false, [], ◌∷◌, negsuc, Ok}
use Rattle.std.specs.Float.{fin}
use Rattle.answer.specs.declared.Refusal.{Refusal}
use Rattle.answer.specs.Answers.{number_of, detail_of}
use Rattle.random.specs.Generator.{from_state, word_of, next, uniform_of}
use Rattle.random.specs.BelowCall.{turned_back, below_call}
use Rattle.random.specs.declared.Random.{Random}

-- state 1,2,3,4 and state 0,0,0,0
abbrev pub counting : Random
counting = from_state (1 ∷ 2 ∷ 3 ∷ 4 ∷ [])

abbrev pub zeros : Random
zeros = from_state (0 ∷ 0 ∷ 0 ∷ 0 ∷ [])

-- a refusal with document 01's number and detail, the generator handed back
pub record RefusedWith (number detail : ℕ) (g : Random) (n allowance : ℕ) : Type 0 where
  pub why : Refusal
  pub answer : below_call g n allowance ≡ turned_back g why
  pub numbered : number_of why ≡ number
  pub detailed : detail_of why ≡ detail

pub record GeneratorRows : Type 0 where
  -- "State 1,2,3,4: draws 41943041, 58720359"
  pub first_draw : word_of counting ≡ 41943041
  pub second_draw : word_of (next counting) ≡ 58720359
  -- "the first as uniform is 5·2^−41"
  pub first_uniform : uniform_of (word_of counting) ≡ fin false 5 (negsuc 40)
  -- "State 0,0,0,0: below(4) is 0", at the first draw, which leaves the state as it is
  pub below_4 : (allowance : ℕ) → 1 ≤ allowance → allowance ≤ 65535
      → below_call zeros 4 allowance ≡ (Ok (0, 1), zeros)
  -- "below(3) with any allowance is refusal 6", whose detail is the allowance
  pub below_3 : (allowance : ℕ) → 1 ≤ allowance → allowance ≤ 65535 → RefusedWith 6 allowance zeros 3 allowance
