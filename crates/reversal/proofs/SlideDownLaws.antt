-- A slide downwards onto a branch under the sibling, in a strictly dated tree. In order: the branch's ends; the way up from P to the old sibling in the
-- tree made; and that the returning slide goes it (`down-returns`). Assumes nothing.
use Rattle.std.specs.Prelude.{◌≡◌, refl, ◌≢◌, ◌⊎◌, not, ℕ, ◌<◌, T, length, Float}
use Rattle.std.proofs.Common.{sym, subst, inl, inr}
use Rattle.std.proofs.Math.Decide.{ℕ_discrete}
use Rattle.std.specs.Float.Ieee.{lt, le}
use Rattle.std.specs.Float.Ieee.Bits.{is_true}
use Rattle.std.specs.Float.Ieee.Scale.{finite}
use Rattle.answer.specs.declared.Ratio.TheVariants.{Counts}
use Rattle.real.specs.OrderLaws.{lt_trans, lt-le-trans, le_lt_trans}
use Rattle.tree.specs.Tree.{Tree, parent, height, sibling}
use Rattle.tree.specs.Valid.{Valid}
use Rattle.accepted.specs.Ways.{Under, itself, through}
use Rattle.rules.specs.Rules.{regraft, branches}
use Rattle.reversal.specs.FamilyLaws.{under-le, differ}
use Rattle.reversal.specs.GraftLaws.{Grafts, graft-node, graft-old-sibling, graft-parent, graft-other, graft-height, graft-root-sibling, graft-under, graft-parent-under}
use Rattle.reversal.specs.BranchLaws.{Climb, stops, goes, Branch}
use Rattle.reversal.specs.SlideWayLaws.{Slides, up, back_index, Returns}
use Rattle.reversal.specs.SlideValidLaws.{down-grafts, down-valid}
use Rattle.reversal.specs.SlideHeightLaws.{Sliding, number-parent, number-sibling, sibling-low, grand-apart, old-under-grand}
use Rattle.reversal.specs.SlideOntoLaws.{onto-height, returns-up}

-- ---- back up

module _ {n : ℕ} {t : Tree} {i : ℕ} {x : Float} (g : Sliding n t i x) (low : T (le (height t i) x)) (s : T (lt x (height t (sibling t i))))
    {j : ℕ} (b : Branch n t x (sibling t i) j) where
  number : (k : ℕ) → k < n → T (finite (height t k))
  number = g.valid.dated.number

  -- x is under P
  x-under : T (lt x (height t (parent t i)))
  x-under = lt_trans _ _ _ g.number (number-sibling g) (number-parent g) s (sibling-low g)

  -- the branch's upper end is a node below P
  upper-node : parent t j < n
  upper-node = (g.valid.below j b.node b.under_root).parent_node

  upper-low : T (lt (height t (parent t j)) (height t (parent t i)))
  upper-low =
      let h = (under-le g.valid b.under upper-node).1 in
      le_lt_trans _ _ _ (number (parent t j) upper-node) (number-sibling g) (number-parent g) h (sibling-low g)

  -- so is its lower end
  lower-low : T (lt (height t j) (height t (parent t i)))
  lower-low = lt_trans _ _ _ (number j b.node) g.number (number-parent g) b.lower x-under

  -- P goes onto another branch than its own
  grafts : Grafts n t i j
  grafts = down-grafts g.valid g.node g.under g.number low s b

  valid : Valid n (regraft n t i j x)
  valid = down-valid g.valid g.node g.under g.number low s b

  -- in the tree made the old sibling is the root, or under a node that is not below P's old height
  ends : (sibling t i ≡ (regraft n t i j x).root)
      ⊎ T (not (lt (height (regraft n t i j x) (parent (regraft n t i j x) (sibling t i))) (height t (parent t i))))
  ends = elim (ℕ_discrete (parent t i) t.root) [
    | yes e ↦ inl (sym (graft-root-sibling g.valid grafts x e))
    | no d ↦
        let kept = graft-height g.valid grafts x (parent t (parent t i)) (grand-apart g d) in
        inr (rw (graft-old-sibling g.valid grafts x, kept) (old-under-grand g d))
  ]

  -- from a node above j and under the old sibling it leads up to that
  rise : {m k : ℕ} → Under n t m k → k ≡ sibling t i → m < n → T (lt (height t j) (height t m))
      → Climb (regraft n t i j x) (height t (parent t i)) m (sibling t i)
  rise (itself {k}) e M h = subst (λ (y : ℕ). Climb (regraft n t i j x) (height t (parent t i)) y (sibling t i)) (sym e) (stops ends)
  rise (through {c = m} C r u) e M h =
      let P : parent t m < n = (g.valid.below m M r).parent_node in
      let top = subst (λ (l : ℕ). T (le (height t (parent t m)) (height t l))) e (under-le g.valid u P).1 in
      let next = le_lt_trans _ _ _ (number (parent t m) P) (number-sibling g) (number-parent g) top (sibling-low g) in
      let low = lt-le-trans _ _ _ (number m M) (number (parent t m) P) (number-sibling g) (g.strict m M r) top in
      let a : m ≢ sibling t i = λ f. differ t m (sibling t i) low (sym f) in
      let lower = lt_trans _ _ _ (number m M) (number-sibling g) (number-parent g) low (sibling-low g) in
      let c : m ≢ parent t i = λ f. differ t m (parent t i) lower (sym f) in
      let o = graft-other g.valid grafts x m M a c (differ t j m h) in
      goes {j = sibling t i} (graft-under g.valid grafts x m r a c)
      (rw (o, graft-height g.valid grafts x (parent t m) (λ f. differ t (parent t m) (parent t i) next (sym f))) next)
      (rw o (rise u e P (lt_trans _ _ _ (number j b.node) (number m M) (number (parent t m) P) h (g.strict m M r))))

  -- so it does from P, over the branch's upper end
  from-parent : Climb (regraft n t i j x) (height t (parent t i)) (parent t i) (sibling t i)
  from-parent =
      let p = graft-parent g.valid grafts x in
      goes {j = sibling t i} (graft-parent-under g.valid grafts x b.under_root)
      (rw (p, graft-height g.valid grafts x (parent t j) (λ f. differ t (parent t j) (parent t i) upper-low (sym f))) upper-low)
      (rw p (rise b.under refl upper-node (g.strict j b.node b.under_root)))

  back-up : (k : ℕ) → Slides n (regraft n t i j x) i (height t (parent t i)) k (sibling t i)
  back-up k = up {j = sibling t i} (rw (onto-height g grafts) (is_true _ x-under)) (rw (graft-node g.valid grafts x) from-parent)

  -- the slide down onto a branch under the sibling is undone by one up onto the old sibling's
  pub down-returns : Returns n t i (regraft n t i j x) (Counts (length (branches n t x (sibling t i))) 1)
  down-returns = returns-up g grafts valid (back-up (back_index n t (regraft n t i j x) i)) (is_true _ x-under) lower-low
