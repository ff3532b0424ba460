-- The ways through the code that goes down from a node. Assumes nothing.
use mathlib.Core.Path.{◌≡◌, refl, ap, ap₂, ◌∙◌}
use mathlib.Core.List.{List}
use Prim.Native.Nat.{ℕ, zero, suc, ◌+◌, ◌-◌, ◌≤◌, ◌<◌, min, max}
use native.Mathlib.Omega.{arith}
use lib.ListN.{length, get_or, set, replicate}
use borrow.Author.Tests.{lt-ltb, le-ltb}
use Rattle.tree.specs.Tree.{first_in, second_in}
use Rattle.newick_file.specs.Filing.{most}
use Rattle.newick_read.specs.Taking.{reach_at, ages_at, root_reach, root_ages}

-- ---- recursion

module _ (tips v : ℕ) (fo us : List ℕ) where
  pub reach-none : (depth : ℕ) → depth ≡ 0 → 0 ≡ reach_at depth tips fo us v
  unfolding reach_at
  reach-none depth e = rw e

  pub reach-tip : (depth : ℕ) → (depth ≡ 0 → ⊥) → v < tips → 0 ≡ reach_at depth tips fo us v
  unfolding reach_at
  reach-tip zero n h = absurd (n refl)
  reach-tip (suc f) n h = rw (lt-ltb v tips h)

  pub reach-join : (depth : ℕ) → (depth ≡ 0 → ⊥) → tips ≤ v → (a b : ℕ) → a ≡ first_in fo v → b ≡ second_in fo v
      → (x y : ℕ) → x ≡ reach_at (depth - 1) tips fo us a → y ≡ reach_at (depth - 1) tips fo us b → (i j : ℕ) → i ≡ get_or us a 0 → j ≡ get_or us b 0
      → (p q r : ℕ) → p ≡ min (i + x) most → q ≡ min (j + y) most → r ≡ max p q → r ≡ reach_at depth tips fo us v
  unfolding reach_at
  reach-join zero n h a b ea eb x y ex ey i j ei ej p q r ep eq er = absurd (n refl)
  reach-join (suc f) n h a b ea eb x y ex ey i j ei ej p q r ep eq er =
      let z : suc f - 1 ≡ f = omega arith in
      let fx : x ≡ reach_at f tips fo us (first_in fo v) = ex ∙ ap₂ (λ (m k : ℕ). reach_at m tips fo us k) z ea in
      let fy : y ≡ reach_at f tips fo us (second_in fo v) = ey ∙ ap₂ (λ (m k : ℕ). reach_at m tips fo us k) z eb in
      let fi : i ≡ get_or us (first_in fo v) 0 = ei ∙ ap (λ (k : ℕ). get_or us k 0) ea in
      let fj : j ≡ get_or us (second_in fo v) 0 = ej ∙ ap (λ (k : ℕ). get_or us k 0) eb in
      rw (le-ltb v tips h) (er ∙ ap₂ max (ep ∙ (λ w. min (fi w + fx w) most)) (eq ∙ (λ w. min (fj w + fy w) most)))

  module _ (h : ℕ) (l m : List ℕ) where
    pub ages-none : (depth : ℕ) → depth ≡ 0 → m ≡ set l v h → m ≡ ages_at depth tips fo us v h l
    unfolding ages_at
    ages-none depth e f = rw e f

    pub ages-tip : (depth : ℕ) → (depth ≡ 0 → ⊥) → v < tips → m ≡ set l v h → m ≡ ages_at depth tips fo us v h l
    unfolding ages_at
    ages-tip zero n g f = absurd (n refl)
    ages-tip (suc d) n g f = rw (lt-ltb v tips g) f

    pub ages-join : (depth : ℕ) → (depth ≡ 0 → ⊥) → tips ≤ v → (a b : ℕ) → a ≡ first_in fo v → b ≡ second_in fo v
        → (x y : ℕ) → x ≡ h - get_or us a 0 → y ≡ h - get_or us b 0
        → (l₁ l₂ : List ℕ) → l₁ ≡ ages_at (depth - 1) tips fo us a x l → l₂ ≡ ages_at (depth - 1) tips fo us b y l₁ → m ≡ set l₂ v h
        → m ≡ ages_at depth tips fo us v h l
    unfolding ages_at
    ages-join zero n g a b ea eb x y ex ey l₁ l₂ e₁ e₂ em = absurd (n refl)
    ages-join (suc d) n g a b ea eb x y ex ey l₁ l₂ e₁ e₂ em =
        let i = first_in fo v in
        let j = second_in fo v in
        let z : suc d - 1 ≡ d = omega arith in
        let fx : x ≡ h - get_or us i 0 = ex ∙ ap (λ (k : ℕ). h - get_or us k 0) ea in
        let fy : y ≡ h - get_or us j 0 = ey ∙ ap (λ (k : ℕ). h - get_or us k 0) eb in
        let f₁ : l₁ ≡ ages_at d tips fo us i (h - get_or us i 0) l = e₁ ∙ (λ w. ages_at (z w) tips fo us (ea w) (fx w) l) in
        let f₂ : l₂ ≡ ages_at d tips fo us j (h - get_or us j 0) (ages_at d tips fo us i (h - get_or us i 0) l) =
        e₂ ∙ (λ w. ages_at (z w) tips fo us (eb w) (fy w) (f₁ w)) in
        rw (le-ltb v tips g) (em ∙ ap (λ (k : List ℕ). set k v h) f₂)

pub ruleset down_laws = (reach-none, reach-tip, reach-join, ages-none, ages-tip, ages-join)

-- ---- from the root

module _ (tips : ℕ) (fo us : List ℕ) (root : ℕ) (e : root ≡ length us - 1) where
  pub reach-root : (r : ℕ) → r ≡ reach_at tips tips fo us root → r ≡ root_reach tips fo us
  reach-root r f = f ∙ ap (reach_at tips tips fo us) e

  pub ages-root : (h n : ℕ) (l m : List ℕ) → l ≡ replicate n 0 → m ≡ ages_at tips tips fo us root h l → m ≡ root_ages tips fo us h n
  ages-root h n l m f g = g ∙ (λ i. ages_at tips tips fo us (e i) h (f i))

pub ruleset root_laws = (reach-root, ages-root)
