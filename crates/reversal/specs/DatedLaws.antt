-- A node's new height, which it has (`height-at`), and which keeps a valid tree valid where it lies between those of the children and of the
-- parent (`set-valid`), or, at a tip, where it is not negative and no higher than the parent's (`set-tip-valid`). Assumes nothing.
use Rattle.std.specs.Prelude.{◌≡◌, ◌≢◌, ◌⊎◌, not, ℕ, ◌+◌, ◌≤◌, ◌<◌, T, length, Float}
use Rattle.std.proofs.Common.{sym, ap, ◌∙◌, subst, inl, inr, arith}
use Rattle.std.proofs.Math.Decide.{ℕ_discrete}
use Rattle.std.specs.Float.Ieee.{lt, le}
use Rattle.std.specs.Float.Ieee.Scale.{finite}
use Rattle.real.specs.Real as Real
use Rattle.real.specs.OrderLaws.{not_negative}
use Rattle.tree.specs.Tree.{Tree, first, second, parent, height}
use Rattle.tree.specs.Valid.{Inner, Valid}
use Rattle.edits.specs.Slots.{set_height}
use Rattle.edits.specs.SlotLaws.{valid-shaped, shaped-valid, not-own-parent}
use Rattle.edits.specs.HeightLaws.{set-shaped, set-parent, set-root, set-reach, height-same, height-other}

-- node k has the new height
pub height-at : (n : ℕ) (t : Tree) → length t.heights ≡ n → (k : ℕ) → k < n → (x : Float) → height (set_height t k x) k ≡ x
height-at n t z k K x = height-same t k x (rw z K)

-- a new height that is not negative, no lower than any child's and no higher than the parent's
dated-valid : {n : ℕ} {t : Tree} → Valid n t → (k : ℕ) → k < n → (x : Float) → T (finite x) → T (not (lt x Real.zero))
    → ((c : ℕ) → c < n → c ≢ t.root → parent t c ≡ k → T (le (height t c) x)) → (k ≢ t.root → T (le x (height t (parent t k)))) → Valid n (set_height t k x)
dated-valid {n} {t} v k K x X p kids h = shaped-valid (set-shaped t k x (valid-shaped v)) (λ c C. set-reach t k x (v.joined c C)) record {
  number = λ c C. number c C (ℕ_discrete c k);
  positive = λ c C. positive c C (ℕ_discrete c k);
  ordered = λ c C d. rw (set-parent t k x c) (ordered c C (λ e. d (e ∙ sym (set-root t k x))) (ℕ_discrete c k));
}
  where
    at : height (set_height t k x) k ≡ x
    at = height-at n t v.sized.heights k K x

    number : (c : ℕ) → c < n → Dec (c ≡ k) → T (finite (height (set_height t k x) c))
    number c C (yes e) = rw (e, at) X
    number c C (no d) = rw (height-other t k x c d) (v.dated.number c C)

    positive : (c : ℕ) → c < n → Dec (c ≡ k) → T (not (lt (height (set_height t k x) c) Real.zero))
    positive c C (yes e) = rw (e, at) p
    positive c C (no d) = rw (height-other t k x c d) (v.dated.positive c C)

    -- a branch that ends in k, or does not touch it
    branch : (c : ℕ) → c < n → c ≢ t.root → Dec (parent t c ≡ k) → T (le (height t c) (height (set_height t k x) (parent t c)))
    branch c C r (yes e) = rw (e, at) (kids c C r e)
    branch c C r (no f) = rw (height-other t k x (parent t c) f) (v.dated.ordered c C r)

    ordered : (c : ℕ) → c < n → c ≢ t.root → Dec (c ≡ k) → T (le (height (set_height t k x) c) (height (set_height t k x) (parent t c)))
    ordered c C r (yes e) =
        rw (e, at, height-other t k x (parent t k) (not-own-parent v k K (λ f. r (e ∙ f)))) (h (λ f. r (e ∙ f)))
    ordered c C r (no d) = rw (height-other t k x c d) (branch c C r (ℕ_discrete (parent t c) k))

-- an internal node may go to a height between those of its children and of its parent
pub set-valid : {n : ℕ} {t : Tree} → Valid n t → (k : ℕ) → k < n → n < k + k → (x : Float) → T (finite x)
    → T (le (height t (first t k)) x) → T (le (height t (second t k)) x) → (k ≢ t.root → T (le x (height t (parent t k)))) → Valid n (set_height t k x)
set-valid {n} {t} v k K I x X a b h = dated-valid v k K x X
    (not_negative (height t (first t k)) x (v.dated.number (first t k) y.first_node) X (v.dated.positive (first t k) y.first_node) a)
    (λ c C r e. kid c e (v.below c C r).side) h
  where
    y : Inner n t k
    y = v.inner k K I

    kid : (c : ℕ) → parent t c ≡ k → (c ≡ first t (parent t c)) ⊎ (c ≡ second t (parent t c)) → T (le (height t c) x)
    kid c e (inl p) = subst (λ (m : ℕ). T (le (height t m) x)) (sym (p ∙ ap (first t) e)) a
    kid c e (inr p) = subst (λ (m : ℕ). T (le (height t m) x)) (sym (p ∙ ap (second t) e)) b

-- a tip, which has no children, to one that is not negative and no higher than its parent's
pub set-tip-valid : {n : ℕ} {t : Tree} → Valid n t → (k : ℕ) → k < n → k + k ≤ n → (x : Float) → T (finite x) → T (not (lt x Real.zero))
    → (k ≢ t.root → T (le x (height t (parent t k)))) → Valid n (set_height t k x)
set-tip-valid {n} {t} v k K I x X p h = dated-valid v k K x X p (λ c C r e. (let q : n < parent t c + parent t c = (v.below c C r).parent_inner in absurd (omega arith))) h
