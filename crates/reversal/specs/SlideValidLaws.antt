-- SubtreeSlide keeps a tree valid, whatever the heights of children (`slide-keeps`). In order: where going up ends (`Ended`); branches under the sibling
-- (`down-apart`, `beside`); the node's parent P at a new height on its own branch (`own-valid`), upwards (`up-over`, `up-within`) and there on another
-- branch (`up-grafts`, `up-valid`, `up-not-below`), and downwards on a branch under the sibling (`down-grafts`, `down-valid`); and the ways together.
-- Assumes nothing.
use Rattle.std.specs.Prelude.{◌≡◌, refl, ◌≢◌, ◌⊎◌, false, not, ℕ, ◌+◌, ◌≤◌, ◌<◌, T, Float}
use Rattle.std.proofs.Common.{sym, subst, inl, inr}
use Rattle.std.proofs.Math.Decide.{ℕ_discrete}
use Rattle.std.specs.Float.Ieee.{lt, le}
use Rattle.std.specs.Float.Ieee.Scale.{finite}
use Rattle.real.specs.OrderLaws.{lt→le, le_trans, lt_trans, le_lt_trans, nlt→le}
use Rattle.tree.specs.Tree.{Tree, first, second, parent, height, sibling}
use Rattle.tree.specs.Valid.{Inner, Valid}
use Rattle.accepted.specs.Ways.{Under, itself, through, climbs}
use Rattle.accepted.specs.WayLaws.{valid-linked, way, under_parent, under_same, not-under}
use Rattle.edits.specs.Slots.{set_height}
use Rattle.edits.specs.HeightLaws.{height-other}
use Rattle.rules.specs.Rules.{regraft, slid}
use Rattle.rules.specs.Moves.{SubtreeSlide}
use Rattle.reversal.specs.Back.{Kept, Keeps}
use Rattle.reversal.specs.FailedLaws.{passed, lt-false, le-nlt}
use Rattle.reversal.specs.FamilyLaws.{tip-apart, Sibling, sibling-is, sibling-only, under-le, differ}
use Rattle.reversal.specs.DatedLaws.{set-valid}
use Rattle.reversal.specs.GraftLaws.{Grafts, graft-height}
use Rattle.reversal.specs.GraftValidLaws.{graft-valid}
use Rattle.reversal.specs.BranchLaws.{Climb, stops, goes, Branch, branches-sound}
use Rattle.reversal.specs.SlideWayLaws.{Slides, up, level, down, slides, slid-only, slid-onto}

-- ---- where going up ends

-- k is under j, which is a node below x, and the root or with a parent that is not below x
pub record Ended (n : ℕ) (t : Tree) (x : Float) (k j : ℕ) : Type 0 where
  pub node : j < n
  pub low : T (lt (height t j) x)
  pub over : Under n t k j
  pub end : (j ≡ t.root) ⊎ T (not (lt (height t (parent t j)) x))

-- so does a climb from a node below x
pub ended : {n : ℕ} {t : Tree} → Valid n t → {x : Float} {k j : ℕ} → Climb t x k j → k < n → T (lt (height t k) x) → Ended n t x k j
ended v (stops e) K h = record { node = K; low = h; over = itself; end = e }
ended v (goes {k} d q c) K h =
    let r = ended v c (v.below k K d).parent_node q in
    record { node = r.node; low = r.low; over = through K d r.over; end = r.end }

-- ---- under the sibling

-- the lower node of a branch under the sibling is not P
pub down-apart : {n : ℕ} {t : Tree} → Valid n t → {i : ℕ} → i < n → i ≢ t.root → {x : Float} {j : ℕ} → Branch n t x (sibling t i) j → j ≢ parent t i
down-apart {n} {t} v {i} I r {x} {j} b e =
    let s = sibling-is (valid-linked v) i I r in
    let u : Under n t j (sibling t i) = through b.node b.under_root b.under in
    not-under v (sibling t i) s.node s.under (rw s.same_parent itself) (subst (λ (k : ℕ). Under n t k (sibling t i)) e u)

-- what is under the sibling is not under the node, which is as far from the root
beside : {n : ℕ} {t : Tree} → Valid n t → (i : ℕ) → i < n → i ≢ t.root → {k : ℕ} → Under n t k (sibling t i) → Under n t k i → ⊥
beside {n} {t} v i I r a b =
    let s = sibling-is (valid-linked v) i I r in
    let w = way (v.joined (parent t i) (v.below i I r).parent_node) in
    s.apart (under_same a b (climbs {d = w.0} s.under (rw s.same_parent w.1)) (climbs r w.1))

-- ---- P to a new height

module _ {n : ℕ} {t : Tree} (v : Valid n t) {i : ℕ} (I : i < n) (r : i ≢ t.root) where
  P : parent t i < n
  P = (v.below i I r).parent_node

  kin : Sibling n t i (sibling t i)
  kin = sibling-is (valid-linked v) i I r

  number : (k : ℕ) → k < n → T (finite (height t k))
  number = v.dated.number

  sibling-low : T (le (height t (sibling t i)) (height t (parent t i)))
  sibling-low = rw kin.same_parent at (v.dated.ordered (sibling t i) kin.node kin.under)

  -- on its own branch it stays between its children and its parent
  pub own-valid : (x : Float) → T (finite x) → T (le (height t i) x) → T (le (height t (sibling t i)) x)
      → (parent t i ≢ t.root → T (le x (height t (parent t (parent t i))))) → Valid n (set_height t (parent t i) x)
  own-valid x X a b h =
      let p : n < parent t i + parent t i = (v.below i I r).parent_inner in
      let y : Inner n t (parent t i) = v.inner (parent t i) P p in
      set-valid v (parent t i) P p x X (kid (first t (parent t i)) y.first_node y.first_parent) (kid (second t (parent t i)) y.second_node y.second_parent) h
    where
      kid : (c : ℕ) → c < n → parent t c ≡ parent t i → T (le (height t c) x)
      kid c C e = elim (ℕ_discrete c i) [
        | yes f ↦ subst (λ (k : ℕ). T (le (height t k) x)) (sym f) a
        | no f ↦ subst (λ (k : ℕ). T (le (height t k) x)) (sym (sibling-only (valid-linked v) i I r c C e f)) b
      ]

  -- ---- upwards

  module _ {x : Float} (X : T (finite x)) (h : T (lt (height t (parent t i)) x)) {j : ℕ} (c : Climb t x (parent t i) j) where
    top : Ended n t x (parent t i) j
    top = ended v c P h

    -- what is not above P is not above x
    pub up-over : (k : ℕ) → k < n → T (le (height t k) (height t (parent t i))) → T (le (height t k) x)
    up-over k K a = lt→le (height t k) x (le_lt_trans _ _ _ (number k K) (number (parent t i) P) X a h)

    -- nor x above the parent of the end
    pub up-within : j ≢ t.root → T (le x (height t (parent t j)))
    up-within a = end top.end
      where
        end : (j ≡ t.root) ⊎ T (not (lt (height t (parent t j)) x)) → T (le x (height t (parent t j)))
        end (inl e) = absurd (a e)
        end (inr b) = nlt→le (height t (parent t j)) x (number (parent t j) (v.below j top.node a).parent_node) X b

    -- going up may end on P's own branch
    up-own : j ≡ parent t i → Valid n (set_height t (parent t i) x)
    up-own e = own-valid x X (up-over i I (v.dated.ordered i I r)) (up-over (sibling t i) kin.node sibling-low)
        (subst (λ (k : ℕ). k ≢ t.root → T (le x (height t (parent t k)))) e up-within)

    module _ (d : j ≢ parent t i) where
      -- or P goes onto another branch than its own
      pub up-grafts : Grafts n t i j
      up-grafts = record {
        node_i = I;
        under_i = r;
        node_j = top.node;
        not_i = λ e. not-under v i I r top.over (subst (Under n t j) e itself);
        not_parent = d;
        not_sibling = λ e. not-under v (sibling t i) kin.node kin.under (rw kin.same_parent top.over) (subst (Under n t j) e itself);
      }

      -- the tree made is valid
      pub up-valid : Valid n (regraft n t i j x)
      up-valid = graft-valid v up-grafts x X (up-over i I (v.dated.ordered i I r)) (lt→le (height t j) x top.low) up-within
          (λ a. not-under v i I r (under_parent top.over top.node a))

      -- the new sibling is not below P's old height
      pub up-not-below : lt (height (regraft n t i j x) j) (height t (parent t i)) ≡ false
      up-not-below = rw (graft-height v up-grafts x j d) (le-nlt (height t j) (height t (parent t i)) (number j top.node) (number (parent t i) P) (under-le v top.over P).1)

  -- ---- downwards

  module _ {x : Float} (X : T (finite x)) (low : T (le (height t i) x)) (s : T (lt x (height t (sibling t i)))) {j : ℕ} (b : Branch n t x (sibling t i) j) where
    -- P goes onto another branch than its own
    pub down-grafts : Grafts n t i j
    down-grafts = record {
      node_i = I;
      under_i = r;
      node_j = b.node;
      not_i = λ e. not-under v (sibling t i) kin.node kin.under (rw kin.same_parent itself) (subst (λ (k : ℕ). Under n t (parent t k) (sibling t i)) e b.under);
      not_parent = down-apart v I r b;
      not_sibling = λ e. differ t j (sibling t i) (lt_trans _ _ _ (number j b.node) X (number (sibling t i) kin.node) b.lower s) (sym e);
    }

    -- the tree made is valid
    pub down-valid : Valid n (regraft n t i j x)
    down-valid = graft-valid v down-grafts x X low (lt→le (height t j) x b.lower)
        (λ a. nlt→le (height t (parent t j)) x (number (parent t j) (v.below j b.node a).parent_node) X b.upper)
        (λ a. beside v i I r b.under)

-- ---- the ways together

-- the tree made is valid, with the tips' ages
pub slide-keeps : Keeps SubtreeSlide
slide-keeps n t v c l f = go (slides v l f)
  where
    i : ℕ
    i = c.node

    x : Float
    x = c.height

    Q : parent t i < n
    Q = (v.below i l.node l.under).parent_node

    N : (k : ℕ) → k < n → T (finite (height t k))
    N = v.dated.number

    S : Sibling n t i (sibling t i)
    S = sibling-is (valid-linked v) i l.node l.under

    tip : (k : ℕ) → k + k ≤ n → k ≢ parent t i
    tip = tip-apart (valid-linked v) i l.node l.under

    own : Valid n (set_height t (parent t i) x) → Kept n t (set_height t (parent t i) x)
    own w = record { valid = w; tips = λ k h. height-other t (parent t i) x k (tip k h) }

    onto : {j : ℕ} → Grafts n t i j → Valid n (regraft n t i j x) → Kept n t (regraft n t i j x)
    onto g w = record { valid = w; tips = λ k h. graft-height v g x k (tip k h) }

    go : {j : ℕ} → Slides n t i x c.index j → Kept n t (slid n t i x c.index)
    go {j} (up a k) =
        let h = passed _ a in
        elim (ℕ_discrete j (parent t i)) [
          | yes e ↦ rw (slid-only v Q {index = c.index} (up a k) e) (own (up-own v l.node l.under l.number h k e))
          | no d ↦ rw (slid-onto v Q {index = c.index} (up a k) d)
              (onto (up-grafts v l.node l.under l.number h k d) (up-valid v l.node l.under l.number h k d))
        ]
    go (level a k h) = rw (slid-only v Q {index = c.index} (level a k h) refl)
        (own (own-valid v l.node l.under x l.number (lt-false x (height t i) l.number (N i l.node) k) (lt-false x (height t (sibling t i)) l.number (N (sibling t i) S.node) h)
        (λ d. le_trans x (height t (parent t i)) (height t (parent t (parent t i))) l.number (N (parent t i) Q)
        (N (parent t (parent t i)) (v.below (parent t i) Q d).parent_node) (lt-false (height t (parent t i)) x (N (parent t i) Q) l.number a) (v.dated.ordered (parent t i) Q d))))
    go (down a k h y e) =
        let b = branches-sound v x S.node (c.index, y, e) in
        let low : T (le (height t i) x) = lt-false x (height t i) l.number (N i l.node) k in
        rw (slid-onto v Q (down a k h y e) (down-apart v l.node l.under b))
        (onto (down-grafts v l.node l.under l.number low (passed _ h) b) (down-valid v l.node l.under l.number low (passed _ h) b))
