-- Laws of the printed ages of a tree's heights: each is its height's (`aged-at`), all are printed where every height is below 2^43 (`all-aged`), and of a
-- valid tree each is below 2^43 (`age-few`), and a parent never prints younger than its child (`ages-order`, `ages-ordered`). Assumes nothing.
use Rattle.std.specs.Prelude.{◌≡◌, refl, ◌≢◌, Bool, true, false, cond, ◌&&◌, not, List, [], ◌∷◌, ℕ, zero, suc, ◌*◌, ◌^◌, ◌≤◌, ◌<◌, T, length, get_or, Float, Option, Some, None}
use Rattle.std.proofs.Common.{sym, ap, ◌∙◌, subst, arith}
use Rattle.std.specs.Float.{nan}
use Rattle.std.specs.Float.Ieee.{lt}
use Rattle.real.specs.Real as Real
use Rattle.real.specs.Printed.{print_limit, thousandths_of, printed_of}
use Rattle.real.specs.PrintedLaws.{printed-few, printed-order}
use Rattle.tree.specs.Tree.{Tree, first, second, parent, height}
use Rattle.tree.specs.Valid.{Valid}
use Rattle.accepted.specs.WayLaws.{valid-linked, under_root}
use Rattle.newick.specs.Copies.{Aged, too_old, aged, and_aged, ages_of}
use Rattle.newick.specs.ClosingLaws.{Ordered}

-- ---- of a list of heights

old-clash : (l : List ℕ) → too_old ≡ aged l → ⊥
old-clash l e = let z : ◌≡◌ {A = ℕ} 0 1 = cc in omega arith

aged-same : (l m : List ℕ) → aged l ≡ aged m → l ≡ m
aged-same l m e = cc

-- one age for each height, in its order
record Ages (xs : List Float) (l : List ℕ) : Type 0 where
  long : length l ≡ length xs
  each : (k : ℕ) → k < length xs → printed_of (get_or xs k nan) ≡ Some (get_or l k 0)

aged-at : (xs : List Float) (l : List ℕ) → ages_of xs ≡ aged l → Ages xs l
unfolding ages_of
aged-at [] l e = record { long = ap length (sym (aged-same [] l e)); each = λ k K. absurd (omega arith) }
aged-at (x ∷ xs) l e = go (printed_of x) refl (ages_of xs) refl (aged-at xs) e
  where
    go : (p : Option ℕ) → printed_of x ≡ p → (r : Aged) → ages_of xs ≡ r → ((m : List ℕ) → ages_of xs ≡ aged m → Ages xs m)
        → and_aged p r ≡ aged l → Ages (x ∷ xs) l
    go None q r f rest e = absurd (old-clash l e)
    go (Some c) q too_old f rest e = absurd (old-clash l e)
    go (Some c) q (aged m) f rest e =
        subst (Ages (x ∷ xs)) (aged-same (c ∷ m) l e) (record { long = ap suc (rest m f).long; each = at (rest m f) })
      where
        at : Ages xs m → (k : ℕ) → k < suc (length xs) → printed_of (get_or (x ∷ xs) k nan) ≡ Some (get_or (c ∷ m) k 0)
        at i zero K = q
        at i (suc k) K = i.each k (omega arith)

-- no height is below 0, and each is below 2^43
pub all-aged : (xs : List Float) → ((k : ℕ) → k < length xs → T (not (lt (get_or xs k nan) Real.zero)) × T (lt (get_or xs k nan) print_limit))
    → (l : List ℕ) × (ages_of xs ≡ aged l)
unfolding ages_of printed_of
all-aged [] h = ([], refl)
all-aged (x ∷ xs) h =
    let r = all-aged xs (λ k K. h (suc k) (omega arith)) in
    let z = h zero (omega arith) in
    (thousandths_of x ∷ r.0, ap (and_aged (printed_of x)) r.1 ∙ go (lt x Real.zero) (lt x print_limit) z.0 z.1 r.0)
  where
    go : (a b : Bool) → T (not a) → T b → (l : List ℕ)
        → and_aged (cond (not a && b) (Some (thousandths_of x)) None) (aged l) ≡ aged (thousandths_of x ∷ l)
    go false true p q l = refl
    go true b p q l = absurd p
    go false false p q l = absurd q

-- ---- of a valid tree

module _ (n : ℕ) (t : Tree) (v : Valid n t) (l : List ℕ) (P : ages_of t.heights ≡ aged l) where
  age-printed : (k : ℕ) → k < n → printed_of (height t k) ≡ Some (get_or l k 0)
  unfolding height
  age-printed k K = (aged-at t.heights l P).each k (let h = v.sized.heights in omega arith)

  -- below the limit that document 01 sets to what is printed
  pub age-few : (k : ℕ) → k < n → get_or l k 0 < 2 ^ 43 * 1000
  age-few k K = printed-few (height t k) (get_or l k 0) (age-printed k K)

  -- a parent never prints younger than its child
  pub ages-order : (c : ℕ) → c < n → c ≢ t.root → get_or l c 0 ≤ get_or l (parent t c) 0
  ages-order c C r =
      let p = parent t c in
      printed-order (height t c) (get_or l c 0) (age-printed c C)
      (height t p) (get_or l p 0) (age-printed p (v.below c C r).parent_node) (v.dated.ordered c C r)

  pub ages-ordered : Ordered n t l
  ages-ordered k K i =
      let x = v.inner k K i in
      (child (first t k) x.first_node x.first_parent, child (second t k) x.second_node x.second_parent)
    where
      child : (c : ℕ) → c < n → parent t c ≡ k → get_or l c 0 ≤ get_or l k 0
      child c C e = subst (λ (m : ℕ). get_or l c 0 ≤ get_or l m 0) e (ages-order c C (under_root n t (valid-linked v) k K c e))
