-- The ways through the writer of an accepted tree (`write_laws`): with its ages printed or not, with places for as many ages as there are heights, and with a
-- verdict on the tree. Assumes nothing.
use mathlib.Core.Path.{◌≡◌, refl, sym, ap, ◌∙◌, subst}
use mathlib.Core.List.{List, []}
use Prim.Native.Nat.{ℕ, ◌≤◌}
use native.Mathlib.Omega.{arith}
use lib.ListN.{length, take}
use lib.Seq.{length-take-le}
use lib.Ieee.{Float}
use Rattle.answer.specs.declared.Refusal.{Refusal}
use Rattle.answer.specs.declared.Refusal.TheVariants.{Parameter}
use Rattle.tree.specs.New.{validated}
use Rattle.tree.specs.Given.{tree_of}
use Rattle.accepted.specs.ValidatedLaws.{fine-valid}
use Rattle.newick.specs.Copies.{Aged, too_old, aged, ages_of, tree_text, CopyCall, copied, placed, copy_aged, copy_judged, copy_call}
use Rattle.newick_write.specs.Given.{aged_in}
use Rattle.std.specs.Prelude.{Option, Some, None, Result, Ok, Err}
use Rattle.newick.specs.declared.CopyError.TheVariants as CopyErrors

-- ---- with printed ages

module _ (pairs : List ℕ) (heights : List Float) (root : ℕ) (out ages : List ℕ) (b : Option (Unit {0})) (e : aged_in b ages ≡ ages_of heights) where
  pub with-text : b ≡ Some tt → (c : CopyCall) → c ≡ placed out (tree_text pairs root ages) → c ≡ copy_aged (tree_of pairs [] heights root) out (ages_of heights)
  with-text t c f =
      let z : aged ages ≡ ages_of heights = subst (λ (x : Option (Unit {0})). aged_in x ages ≡ ages_of heights) t e in
      f ∙ ap (copy_aged (tree_of pairs [] heights root) out) z

  pub with_none : b ≡ None → copied (Err (CopyErrors.Refused (Parameter 0))) out ≡ copy_aged (tree_of pairs [] heights root) out (ages_of heights)
  with_none t =
      let z : too_old ≡ ages_of heights = subst (λ (x : Option (Unit {0})). aged_in x ages ≡ ages_of heights) t e in
      ap (copy_aged (tree_of pairs [] heights root) out) z

-- ---- with places for them

pub part-long : (heights : List Float) (l : List ℕ) → length heights ≤ 4095 → length l ≡ 4095 → length (take (length heights) l) ≡ length heights
part-long heights l h e = length-take-le (length heights) l (omega arith)

-- ---- with a verdict

-- the text is the same whatever the parents are
same-aged : (pairs parents : List ℕ) (heights : List Float) (root : ℕ) (out : List ℕ) (r : Aged)
    → copy_aged (tree_of pairs [] heights root) out r ≡ copy_aged (tree_of pairs parents heights root) out r
same-aged pairs parents heights root out too_old = refl
same-aged pairs parents heights root out (aged l) = refl

module _ (pairs parents : List ℕ) (heights : List Float) (root : ℕ) (out : List ℕ) (v : Result (Unit {0}) Refusal) (e : v ≡ validated (tree_of pairs parents heights root)) where
  pub write-few : v ≡ (Ok tt) → length heights ≤ 4095
  write-few y =
      let valid = fine-valid (tree_of pairs parents heights root) (sym e ∙ y) in
      let long = valid.sized.heights in
      let few = valid.sized.few in
      omega arith

  pub write-fine : v ≡ (Ok tt) → (w : CopyCall) → w ≡ copy_aged (tree_of pairs [] heights root) out (ages_of heights)
      → w ≡ copy_call (tree_of pairs parents heights root) out
  unfolding copy_call
  write-fine y w f =
      f ∙ same-aged pairs parents heights root out (ages_of heights) ∙ ap (copy_judged (tree_of pairs parents heights root) out) (sym y ∙ e)

  pub write-refused : (why : Refusal) → v ≡ Err why → copied (Err (CopyErrors.Refused why)) out ≡ copy_call (tree_of pairs parents heights root) out
  unfolding copy_call
  write-refused why y = ap (copy_judged (tree_of pairs parents heights root) out) (sym y ∙ e)

pub ruleset write_laws = (with-text, with_none, part-long, write-few, write-fine, write-refused)
