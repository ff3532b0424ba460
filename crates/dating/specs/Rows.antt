-- Calls with an age table on tree F as rows of one statement on the definitions (`dating-rows`): of TipAge from the state 1,2,3,4 and another, and of
-- `initialize`, with those that decline or are turned back. Of what each leaves, all is said. Assumes nothing.
use Rattle.std.specs.Prelude.{◌≡◌, refl, List, [], ◌∷◌, ℕ, Float, Ok, Err}
use Rattle.std.specs.Float.{binary64}
use Rattle.std.specs.Float.Ieee.{of_bits, lt, le, eq, add, sub, mul, div, round}
use Rattle.words.specs.Words.{rotl}
use Rattle.answer.specs.declared.Refusal.{Refusal}
use Rattle.answer.specs.declared.Refusal.TheVariants as Refusals
use Rattle.answer.specs.declared.Ratio.TheVariants.{Even}
use Rattle.answer.specs.declared.Answer.TheVariants as Answers
use Rattle.random.specs.declared.Random.{Random}
use Rattle.random.specs.Generator.{word_of, next, uniform_of}
use Rattle.random.specs.Xoshiro.{output, step, stepped}
use Rattle.random.specs.Draw.{run, pick, onward, word_from, until_from, uniform, draw, ◌>>=◌, below, fair}
use Rattle.real.specs.Real as Real
use Rattle.tree.specs.Tree.{Tree, parent, height, subtree}
use Rattle.tree.specs.New.{validated, judged, scanned, scan, visit, then_adopt, adopt, joined, roots, agree, misdated, lowest}
use Rattle.edits.specs.Slots.{set_height}
use Rattle.rules.specs.Rules.{tip_age_declines}
use Rattle.rules.specs.Samples.{0·0, 0·5, 1·0, 1·5, 2·0, 2·5, 3·0, F, F-at}
use Rattle.calls.specs.Call.{called_on, leaves, ended}
use Rattle.calls.specs.Draws.{interpolated, drawn_height, least}
use Rattle.moves.specs.Rows.{state, start}
use Rattle.process.specs.declared.FossilizedBirthDeath.{FossilizedBirthDeath}
use Rattle.process.specs.Process.{process_finite}
use Rattle.ages.specs.Ages.{misaged, unsampled, at_fault}
use Rattle.dating.specs.Initialize.{midpoint, oldest, stretch, initial_height, initial_to, start_fits, all_finite, initialized, initialize_call}
use Rattle.dating.specs.TipAge.{ageing, tip_age, ages_checked, tip_age_call}

-- ---- what a row says

-- three tips' ages, the least of each and the greatest of each
abbrev pub three : Float → Float → Float → List Float
three a b c = a ∷ b ∷ c ∷ []

-- a process with an origin
abbrev pub from : Float → FossilizedBirthDeath
from origin = record { birth = 1·0; death = 0·5; fossil_sampling = 0·5; present_sampling = 0·5; origin = origin }

-- ten
abbrev pub 10·0 : Float
10·0 = of_bits binary64 0x4024_0000_0000_0000

-- TipAge on t makes of it u by so many draws, and leaves the generator h
abbrev pub Ages : List Float → List Float → Tree → Random → ℕ → Tree → ℕ → Random → Type 0
Ages minima maxima t g allowance u draws h =
    tip_age_call minima maxima (from 10·0) t g allowance ≡ called_on (Answers.Moved (record { root = u.root; draws = draws; ratio = Even })) h u

abbrev pub Declines : List Float → List Float → Tree → Random → ℕ → ℕ → Random → Type 0
Declines minima maxima t g allowance draws h = tip_age_call minima maxima (from 10·0) t g allowance ≡ called_on (Answers.Declined draws) h t

-- with an origin
abbrev pub Refuses : List Float → List Float → Float → Tree → Random → ℕ → Refusal → Type 0
Refuses minima maxima origin t g allowance why = tip_age_call minima maxima (from origin) t g allowance ≡ called_on (Answers.Refused why) g t

-- `initialize` on t gives these heights
abbrev pub Initializes : List Float → List Float → Tree → List Float → Type 0
Initializes minima maxima t new = initialize_call minima maxima (from 10·0) t ≡ initialized (Ok tt) new

abbrev pub Keeps : List Float → List Float → Tree → Refusal → Type 0
Keeps minima maxima t why = initialize_call minima maxima (from 10·0) t ≡ initialized (Err why) t.heights

-- ---- the rows

-- 0.1, 0.2, 0.7, 1.1, 2.4 and 3.3
abbrev 0·1 : Float
0·1 = of_bits binary64 0x3fb9_9999_9999_999a

abbrev 0·2 : Float
0·2 = of_bits binary64 0x3fc9_9999_9999_999a

abbrev 0·7 : Float
0·7 = of_bits binary64 0x3fe6_6666_6666_6666

abbrev 1·1 : Float
1·1 = of_bits binary64 0x3ff1_9999_9999_999a

abbrev 2·4 : Float
2·4 = of_bits binary64 0x4003_3333_3333_3333

abbrev 3·3 : Float
3·3 = of_bits binary64 0x400a_6666_6666_6666

-- the least positive float
abbrev tiny : Float
tiny = of_bits binary64 1

-- every tip at the present
abbrev present : List Float
present = three 0·0 0·0 0·0

-- generators after draws from 1,2,3,4
abbrev after_one : Random
after_one = state 7 0 0x40002 0xc000_0000_0000

abbrev after_two : Random
after_two = state 0xc000_0000_0007 0x40005 0x40005 0x1800_0000

-- one whose first draw is just over a half, and after two
abbrev upper : Random
upper = state 0x8000_0000_0000_0000 3 5 7

abbrev upper_two : Random
upper_two = state 0x8000_0000_0002 0x8000_0000_0006_0007 0xa_0001 0xd000_1000_0000

-- the heights that the second draws take, from 0.1 to 0.7 and from 0.1 to 1
abbrev lower : Float
lower = of_bits binary64 0x3fb9_9999_999b_b334

abbrev middle : Float
middle = of_bits binary64 0x3fe1_9999_9999_da67

-- the middle of 0.2 and 0.7
abbrev dated : Float
dated = of_bits binary64 0x3fdc_cccc_cccc_cccc

-- a row is an equation on the whole of what a call leaves
pub record DatingRows : Type 0 where
  -- tip 0, to its greatest age; tip 1, to its parent
  pub age_greatest : Ages (three 0·1 0·0 0·0) (three 0·7 0·0 0·0) F start 9 (F-at lower 0·0 0·0 1·0 2·0) 2 after_two
  pub age_parent : Ages (three 0·0 0·1 0·0) (three 0·0 1·5 0·0) F upper 9 (F-at 0·0 middle 0·0 1·0 2·0) 2 upper_two
  -- declined after one draw: a fixed age, and a least age above the parent
  pub age_fixed : Declines present present F start 9 1 after_one
  pub age_above : Declines (three 1·5 0·0 0·0) (three 2·5 0·0 0·0) F start 9 1 after_one
  -- as many draws as it takes are enough, and one less is a 6
  pub age_exact : Ages (three 0·1 0·0 0·0) (three 0·7 0·0 0·0) F start 2 (F-at lower 0·0 0·0 1·0 2·0) 2 after_two
  pub age_spent : Refuses (three 0·1 0·0 0·0) (three 0·7 0·0 0·0) 10·0 F start 1 (Refusals.Allowance 1)
  -- a field and an allowance outside their limits
  pub age_origin : Refuses present present Real.infinity F start 9 (Refusals.Parameter 0)
  pub age_no_draws : Refuses present present 10·0 F start 0 (Refusals.Parameter 0)
  -- the lowest tip at fault is named: of two whose intervals include the present, ahead of an allowance of 0, of one over the most and of an
  -- infinite origin, and the last where it alone is at fault
  pub age_fault : Refuses present (three 0·0 1·0 1·0) 10·0 F start 9 (Refusals.Parameter 1)
  pub age_fault_none : Refuses present (three 0·0 1·0 0·0) 10·0 F start 0 (Refusals.Parameter 1)
  pub age_fault_many : Refuses present (three 0·0 1·0 0·0) 10·0 F start 65536 (Refusals.Parameter 1)
  pub age_fault_origin : Refuses present (three 0·0 1·0 0·0) Real.infinity F start 9 (Refusals.Parameter 1)
  pub age_fault_last : Refuses present (three 0·0 0·0 1·0) 10·0 F start 9 (Refusals.Parameter 2)
  -- a tree's fault comes before it, and a table's length before that
  pub age_tree_first : Refuses present (three 0·0 1·0 0·0) 10·0 (F-at 0·0 0·0 3·0 1·0 2·0) start 9 (Refusals.Height 2)
  pub age_length_first : Refuses (0·0 ∷ 0·0 ∷ []) present 10·0 (F-at 0·0 0·0 3·0 1·0 2·0) start 9 (Refusals.Size 5)
  -- one fossil, then two of which the first is the older
  pub initial_fossil : Initializes (three 0·2 0·0 0·0) (three 0·7 0·0 0·0) F
      (dated ∷ 0·0 ∷ 0·0 ∷ of_bits binary64 0x4011_147a_e147_ae15 ∷ of_bits binary64 0x4020_2e14_7ae1_47ae ∷ [])
  pub initial_fossils : Initializes (three 1·1 0·2 0·0) (three 2·4 0·7 0·0) F
      (of_bits binary64 0x3ffc_0000_0000_0000 ∷ dated ∷ 0·0 ∷ of_bits binary64 0x4014_3333_3333_3334 ∷ of_bits binary64 0x4020_b333_3333_3334 ∷ [])
  -- bits that tell the order of the operations
  pub initial_rounded : Initializes (three 0·1 0·0 0·0) (three 0·7 0·0 0·0) (F-at 0·0 0·0 0·0 0·7 3·3)
      (of_bits binary64 0x3fd9_9999_9999_999a ∷ 0·0 ∷ 0·0 ∷ of_bits binary64 0x4000_3b94_03b9_403b ∷ of_bits binary64 0x4020_28f5_c28f_5c28 ∷ [])
  -- a root at 0, a tip at fault, and both
  pub initial_flat : Keeps present present (F-at 0·0 0·0 0·0 0·0 0·0) (Refusals.Parameter 0)
  pub initial_fault : Keeps present (three 0·0 1·0 1·0) F (Refusals.Parameter 1)
  pub initial_fault_flat : Keeps present (three 0·0 0·0 1·0) (F-at 0·0 0·0 0·0 0·0 0·0) (Refusals.Parameter 2)
  -- 7 at the lowest internal node, where the factor is not finite: an infinite height, and one that is not a number
  pub initial_infinite : Keeps present present (F-at 0·0 0·0 0·0 tiny tiny) (Refusals.NotFinite 3)
  pub initial_no_number : Keeps present present (F-at 0·0 0·0 0·0 0·0 tiny) (Refusals.NotFinite 3)

-- each by computation
pub dating-rows : DatingRows
unfolding tip_age_call ages_checked tip_age ageing at_fault misaged unsampled process_finite
    initialize_call start_fits all_finite oldest midpoint stretch initial_to initial_height
    leaves ended validated judged scanned scan visit then_adopt adopt joined roots subtree agree misdated lowest
    run pick onward word_from until_from uniform draw ◌>>=◌ below fair word_of next output step stepped rotl uniform_of
    interpolated drawn_height least tip_age_declines set_height parent height of_bits lt le eq add sub mul div round
dating-rows = record {
  age_greatest = refl;
  age_parent = refl;
  age_fixed = refl;
  age_above = refl;
  age_exact = refl;
  age_spent = refl;
  age_origin = refl;
  age_no_draws = refl;
  age_fault = refl;
  age_fault_none = refl;
  age_fault_many = refl;
  age_fault_origin = refl;
  age_fault_last = refl;
  age_tree_first = refl;
  age_length_first = refl;
  initial_fossil = refl;
  initial_fossils = refl;
  initial_rounded = refl;
  initial_flat = refl;
  initial_fault = refl;
  initial_fault_flat = refl;
  initial_infinite = refl;
  initial_no_number = refl;
}
