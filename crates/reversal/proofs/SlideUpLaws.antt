-- A slide upwards onto another branch of a strictly dated tree. In order: the branch is not P's own (`up-away`); the branch over the old sibling is
-- listed under the new one in the tree made; and the returning slide picks it (`up-returns`). Assumes nothing.
use Rattle.std.specs.Prelude.{◌≡◌, refl, ◌≢◌, false, ℕ, ◌<◌, T, length, Float}
use Rattle.std.proofs.Common.{sym, ◌∙◌, subst}
use Rattle.std.specs.Float.Ieee.{lt}
use Rattle.std.specs.Float.Ieee.Bits.{is_true}
use Rattle.std.specs.Float.Ieee.Scale.{finite}
use Rattle.answer.specs.declared.Ratio.TheVariants.{Counts}
use Rattle.real.specs.OrderLaws.{lt→le, lt_trans, lt-le-trans}
use Rattle.tree.specs.Tree.{Tree, parent, height, sibling}
use Rattle.tree.specs.Valid.{Valid}
use Rattle.tree.specs.ListLaws.{Has, place_found, place-holds}
use Rattle.accepted.specs.Ways.{Under, itself, through}
use Rattle.rules.specs.Rules.{regraft, branches}
use Rattle.reversal.specs.FailedLaws.{le-nlt}
use Rattle.reversal.specs.FamilyLaws.{under-le, differ}
use Rattle.reversal.specs.GraftLaws.{Grafts, graft-old-sibling, graft-other, graft-height, graft-sibling, graft-under, graft-sibling-under}
use Rattle.reversal.specs.BranchLaws.{Climb, stops, goes, Branch, branches-complete}
use Rattle.reversal.specs.SlideWayLaws.{Slides, down, back_index, Returns}
use Rattle.reversal.specs.SlideValidLaws.{Ended, ended, up-grafts, up-valid}
use Rattle.reversal.specs.SlideHeightLaws.{Sliding, sibling-kin, grand-node, number-parent, number-sibling, number-grand, sibling-low, parent-low, node-apart, sibling-apart, grand-apart, old-over-node, old-under-grand}
use Rattle.reversal.specs.SlideOntoLaws.{onto-height, returns-down}

-- ---- back down

module _ {n : ℕ} {t : Tree} {i : ℕ} {x : Float} (g : Sliding n t i x) (d : parent t i ≢ t.root)
    (q : T (lt (height t (parent t (parent t i))) x)) {j : ℕ} (c : Climb t x (parent t (parent t i)) j) where
  number : (k : ℕ) → k < n → T (finite (height t k))
  number = g.valid.dated.number

  top : Ended n t x (parent t (parent t i)) j
  top = ended g.valid c (grand-node g d) q

  -- the branch is over P
  parent-below : T (lt (height t (parent t i)) (height t j))
  parent-below =
      lt-le-trans _ _ _ (number-parent g) (number-grand g d) (number j top.node) (parent-low g d) (under-le g.valid top.over (grand-node g d)).1

  -- x is over P
  parent-under-x : T (lt (height t (parent t i)) x)
  parent-under-x = lt_trans _ _ _ (number-parent g) (number-grand g d) g.number (parent-low g d) q

  -- P goes onto another branch than its own
  pub up-away : j ≢ parent t i
  up-away = differ t (parent t i) j parent-below

  grafts : Grafts n t i j
  grafts = up-grafts g.valid g.node g.under g.number parent-under-x (goes d q c) up-away

  valid : Valid n (regraft n t i j x)
  valid = up-valid g.valid g.node g.under g.number parent-under-x (goes d q c) up-away

  -- the way up from P's old parent to j is there in the tree made
  rise : {k e : ℕ} → Climb t x k e → e ≡ j → k < n → T (lt (height t (parent t i)) (height t k)) → Under n (regraft n t i j x) k j
  rise (stops {k} h) e K p = subst (λ (m : ℕ). Under n (regraft n t i j x) m j) (sym e) itself
  rise (goes {k} {j = e} r h c) f K p =
      let K' : parent t k < n = (g.valid.below k K r).parent_node in
      let y = ended g.valid c K' h in
      let low = lt-le-trans _ _ _ (number k K) (number (parent t k) K') (number e y.node) (g.strict k K r) (under-le g.valid y.over K').1 in
      let a : k ≢ sibling t i = differ t (sibling t i) k (lt_trans _ _ _ (number-sibling g) (number-parent g) (number k K) (sibling-low g) p) in
      let b : k ≢ parent t i = differ t (parent t i) k p in
      let o = graft-other g.valid grafts x k K a b (λ z. differ t k e low (f ∙ sym z)) in
      through {k = j} K (graft-under g.valid grafts x k r a b)
      (rw o (rise c f K' (lt_trans _ _ _ (number-parent g) (number k K) (number (parent t k) K') p (g.strict k K r))))

  -- there the branch over the old sibling spans P's old height, under the new sibling
  old-branch : Branch n (regraft n t i j x) (height t (parent t i)) j (sibling t i)
  old-branch =
      let s = graft-old-sibling g.valid grafts x in
      record {
        node = (sibling-kin g).node;
        under_root = graft-sibling-under g.valid grafts x d;
        lower = rw (graft-height g.valid grafts x (sibling t i) (sibling-apart g)) (sibling-low g);
        upper = rw (s, graft-height g.valid grafts x (parent t (parent t i)) (grand-apart g d)) (old-under-grand g d);
        under = rw s (rise c refl (grand-node g d) (parent-low g d));
      }

  found : Has (branches n (regraft n t i j x) (height t (parent t i)) (sibling (regraft n t i j x) i)) (sibling t i)
  found = rw (graft-sibling g.valid grafts x) (branches-complete valid (height t (parent t i)) old-branch)

  -- the new height is not below the old
  not-below : lt x (height t (parent t i)) ≡ false
  not-below = le-nlt x (height t (parent t i)) g.number (number-parent g) (lt→le (height t (parent t i)) x parent-under-x)

  back-down : Slides n (regraft n t i j x) i (height t (parent t i)) (back_index n t (regraft n t i j x) i) (sibling t i)
  back-down =
      let l = branches n (regraft n t i j x) (height t (parent t i)) (sibling (regraft n t i j x) i) in
      let f = place_found l (sibling t i) found in
      down (rw (onto-height g grafts) not-below) (rw (graft-height g.valid grafts x i (node-apart g)) (old-over-node g))
      (rw (graft-sibling g.valid grafts x, graft-height g.valid grafts x j grafts.not_parent) (is_true _ parent-below))
      f (place-holds l (sibling t i) f)

  -- the slide up onto another branch is undone by one down onto the old sibling's
  pub up-returns : Returns n t i (regraft n t i j x)
      (Counts 1 (length (branches n (regraft n t i j x) (height t (parent t i)) (sibling (regraft n t i j x) i))))
  up-returns = returns-down g grafts valid back-down not-below parent-below
