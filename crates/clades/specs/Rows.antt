-- Every set of the tips of tree F, and sets of F at other heights, as rows of one statement on the definitions (`clade-rows`): whether the set is monophyletic,
-- and its age. Assumes nothing.
use Rattle.std.specs.Prelude.{◌≡◌, refl, Bool, true, false, [], ◌∷◌, Float, Result, Ok, Err, ℕ}
use Rattle.std.specs.Float.{binary64}
use Rattle.std.specs.Float.Ieee.{of_bits, lt, le, eq}
use Rattle.answer.specs.declared.Refusal.TheVariants.{Parameter}
use Rattle.real.specs.Real as Real
use Rattle.real.specs.Printed.{printed_of, thousandths_of}
use Rattle.tree.specs.Tree.{Tree, no_node, parent, height, subtree}
use Rattle.tree.specs.Bounded.{every, some, count_to}
use Rattle.tree.specs.New.{validated, judged, scanned, scan, visit, then_adopt, adopt, joined, roots, agree, misdated, lowest}
use Rattle.clades.specs.Clades.{has, first_of, size_of, exactly, over, monophyletic, clade_node, age_node, clade_age, age_call, monophyly_call}
use Rattle.answer.specs.declared.Refusal.{Refusal}

-- ---- trees

abbrev half : Float
half = of_bits binary64 0x3fe0_0000_0000_0000

abbrev one : Float
one = of_bits binary64 0x3ff0_0000_0000_0000

abbrev two : Float
two = of_bits binary64 0x4000_0000_0000_0000

-- 2^43
abbrev limit : Float
limit = of_bits binary64 0x42a0_0000_0000_0000

-- tree F of document 01, with tip 0 and the root at these heights
abbrev F-at : Float → Float → Tree
F-at h0 h4 = record {
  pairs = no_node ∷ no_node ∷ no_node ∷ no_node ∷ no_node ∷ no_node ∷ 0 ∷ 1 ∷ 3 ∷ 2 ∷ [];
  parents = 3 ∷ 3 ∷ 4 ∷ 4 ∷ no_node ∷ [];
  heights = h0 ∷ Real.zero ∷ Real.zero ∷ one ∷ h4 ∷ [];
  root = 4;
}

abbrev F : Tree
F = F-at Real.zero two

-- ---- the rows

-- of the tips that are marked: whether they are a clade, and its age
abbrev Row : Tree → Bool → Bool → Bool → Bool → Result ℕ Refusal → Type 0
Row t m0 m1 m2 is age = (monophyly_call t (m0 ∷ m1 ∷ m2 ∷ []) ≡ Ok is) × (age_call t (m0 ∷ m1 ∷ m2 ∷ []) ≡ age)

pub record CladeRows : Type 0 where
  -- every set of F's tips: of one tip "its parent's height", of more that of "document 01's node"; "an empty set" is refused
  pub no_tips : Row F false false false false (Err (Parameter 0))
  pub tip_0 : Row F true false false true (Ok 1000)
  pub tip_1 : Row F false true false true (Ok 1000)
  pub tip_2 : Row F false false true true (Ok 2000)
  pub tips_0_1 : Row F true true false true (Ok 1000)
  pub tips_0_2 : Row F true false true false (Ok 2000)
  pub tips_1_2 : Row F false true true false (Ok 2000)
  pub all_tips : Row F true true true true (Ok 2000)
  -- the height of a tip that is above 0 is "no longer its own"
  pub above : Row (F-at half two) true false false true (Ok 1000)
  -- nor is the next node taken where a tip is level with its parent
  pub level : Row (F-at one two) true false false true (Ok 1000)
  pub level_pair : Row (F-at one two) true true false true (Ok 1000)
  -- "that node at 2^43 or more" is the one by which the set is dated
  pub old_stem : Row (F-at Real.zero limit) false false true true (Err (Parameter 0))
  pub old_crown : Row (F-at Real.zero limit) true false true false (Err (Parameter 0))
  pub young_stem : Row (F-at Real.zero limit) true false false true (Ok 1000)

-- each by computation
pub clade-rows : CladeRows
unfolding has count_to first_of size_of exactly over monophyletic clade_node age_node clade_age age_call monophyly_call every some printed_of thousandths_of
    validated judged scanned scan visit then_adopt adopt joined roots agree misdated lowest subtree parent height lt le eq of_bits
clade-rows = record {
  no_tips = (refl, refl);
  tip_0 = (refl, refl);
  tip_1 = (refl, refl);
  tip_2 = (refl, refl);
  tips_0_1 = (refl, refl);
  tips_0_2 = (refl, refl);
  tips_1_2 = (refl, refl);
  all_tips = (refl, refl);
  above = (refl, refl);
  level = (refl, refl);
  level_pair = (refl, refl);
  old_stem = (refl, refl);
  old_crown = (refl, refl);
  young_stem = (refl, refl);
}
