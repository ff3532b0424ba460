-- Parents, children and siblings in a tree that is linked. In order: a shape is linked (`shaped-linked`), and no tip is a parent (`tip-apart`);
-- the other child of a node's parent (`Sibling`, `sibling-is`), and that there is no third (`sibling-only`); heights of the nodes under a node
-- (`under-le`, `not-over`), nodes told apart by their heights (`differ`), and the sibling's where every child is strictly younger
-- (`sibling-below`). Assumes nothing.
use Rattle.std.specs.Prelude.{◌≡◌, ◌≢◌, ◌⊎◌, ℕ, ◌+◌, ◌≤◌, ◌<◌, T}
use Rattle.std.proofs.Common.{sym, ◌∙◌, subst, inl, inr, arith, eq-eqb, ne_eqb}
use Rattle.std.specs.Float.Ieee.{lt, le}
use Rattle.real.specs.OrderLaws.{lt_irrefl, lt-le-absurd, le_refl, le_trans}
use Rattle.tree.specs.Tree.{Tree, first, second, parent, height, sibling}
use Rattle.tree.specs.Valid.{Inner, Valid, Strict}
use Rattle.accepted.specs.Ways.{Linked, Under, itself, through}
use Rattle.accepted.specs.WayLaws.{valid-linked, under_root}
use Rattle.edits.specs.SlotLaws.{Shaped, shaped-inner, shaped-below, root_node, root_parent}

-- a tree with a shape is linked
pub shaped-linked : {n : ℕ} {t : Tree} {σ : ℕ → ℕ} → Shaped n t σ → Linked n t
shaped-linked s = record { few = s.sized.few; inner = shaped-inner s; root_node = root_node s; root_parent = root_parent s; below = shaped-below s }

-- no tip is a parent
pub tip-apart : {n : ℕ} {t : Tree} → Linked n t → (i : ℕ) → i < n → i ≢ t.root → (k : ℕ) → k + k ≤ n → k ≢ parent t i
tip-apart {n} {t} l i I r k h e = let p : n < parent t i + parent t i = (l.below i I r).parent_inner in omega arith

-- ---- the other child

-- s is a child of i's parent, and not i
pub record Sibling (n : ℕ) (t : Tree) (i s : ℕ) : Type 0 where
  pub node : s < n
  pub under : s ≢ t.root
  pub apart : s ≢ i
  pub same_parent : parent t s ≡ parent t i

module _ {n : ℕ} {t : Tree} (l : Linked n t) (i : ℕ) (I : i < n) (r : i ≢ t.root) where
  P : parent t i < n
  P = (l.below i I r).parent_node

  kids : Inner n t (parent t i)
  kids = l.inner (parent t i) P (l.below i I r).parent_inner

  -- which of the two is the other one
  data Which : ℕ → Type 0 where
    is_second : i ≡ first t (parent t i) → Which (second t (parent t i))
    is_first : i ≡ second t (parent t i) → Which (first t (parent t i))

  which : Which (sibling t i)
  unfolding sibling
  which = pick (l.below i I r).side
    where
      pick : (i ≡ first t (parent t i)) ⊎ (i ≡ second t (parent t i)) → Which (sibling t i)
      pick (inl e) = rw (eq-eqb (first t (parent t i)) i (sym e)) (is_second e)
      pick (inr e) = rw (ne_eqb (first t (parent t i)) i (λ f. kids.two (f ∙ e))) (is_first e)

  -- the sibling is such a child
  pub sibling-is : Sibling n t i (sibling t i)
  sibling-is = go which
    where
      go : {s : ℕ} → Which s → Sibling n t i s
      go (is_second e) = record {
        node = kids.second_node;
        under = under_root n t l (parent t i) P (second t (parent t i)) kids.second_parent;
        apart = λ f. kids.two (sym e ∙ sym f);
        same_parent = kids.second_parent;
      }
      go (is_first e) = record {
        node = kids.first_node;
        under = under_root n t l (parent t i) P (first t (parent t i)) kids.first_parent;
        apart = λ f. kids.two (f ∙ e);
        same_parent = kids.first_parent;
      }

  -- and there is no other
  pub sibling-only : (d : ℕ) → d < n → parent t d ≡ parent t i → d ≢ i → d ≡ sibling t i
  sibling-only d D e x = go which side
    where
      side : (d ≡ first t (parent t i)) ⊎ (d ≡ second t (parent t i))
      side = subst (λ (k : ℕ). (d ≡ first t k) ⊎ (d ≡ second t k)) e (l.below d D (under_root n t l (parent t i) P d e)).side

      go : {s : ℕ} → Which s → (d ≡ first t (parent t i)) ⊎ (d ≡ second t (parent t i)) → d ≡ s
      go (is_second f) (inl g) = absurd (x (g ∙ sym f))
      go (is_second f) (inr g) = g
      go (is_first f) (inl g) = g
      go (is_first f) (inr g) = absurd (x (g ∙ sym f))

-- ---- heights

-- a node under k is no higher
pub under-le : {n : ℕ} {t : Tree} → Valid n t → {c k : ℕ} → Under n t c k → c < n → (k < n) × T (le (height t c) (height t k))
under-le {n} {t} v (itself {k}) C = (C, le_refl (height t k) (v.dated.number k C))
under-le {n} {t} v (through {c} {k} C' d u) C =
    let P : parent t c < n = (v.below c C d).parent_node in
    let r = under-le v u P in
    (r.0, le_trans _ _ _ (v.dated.number c C) (v.dated.number (parent t c) P) (v.dated.number k r.0) (v.dated.ordered c C d) r.1)

-- a node that is strictly higher than another is not under it
pub not-over : {n : ℕ} {t : Tree} → Valid n t → (a c : ℕ) → a < n → c < n → T (lt (height t a) (height t c)) → Under n t c a → ⊥
not-over {n} {t} v a c A C h u = lt-le-absurd (height t a) (height t c) (v.dated.number a A) (v.dated.number c C) h (under-le v u C).1

-- a node above another is another node
pub differ : (t : Tree) (a k : ℕ) → T (lt (height t a) (height t k)) → k ≢ a
differ t a k h e = lt_irrefl (height t a) (subst (λ (c : ℕ). T (lt (height t a) (height t c))) e h)

-- the sibling is below its parent too
pub sibling-below : {n : ℕ} {t : Tree} → Valid n t → Strict n t → (i : ℕ) → i < n → i ≢ t.root → T (lt (height t (sibling t i)) (height t (parent t i)))
sibling-below {n} {t} v st i I r =
    let s = sibling-is (valid-linked v) i I r in
    subst (λ (k : ℕ). T (lt (height t (sibling t i)) (height t k))) s.same_parent (st (sibling t i) s.node s.under)
