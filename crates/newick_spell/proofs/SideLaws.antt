-- The sides of the open parentheses: the ways through the code that goes back in the text (`comma_laws`) and through the code of the list (`keep_laws`), and
-- how the text and the list go on telling the sides where a byte opens or closes a parenthesis. Assumes nothing.
use mathlib.Core.Path.{◌≡◌, refl, sym, ap, ◌∙◌}
use mathlib.Core.Bool.{Bool, false}
use mathlib.Core.List.{List, [], ◌∷◌}
use Prim.Native.Nat.{ℕ, zero, suc, ◌+◌, ◌-◌, ◌≤◌, ◌<◌}
use native.Mathlib.Omega.{arith}
use native.Mathlib.Numerals.{add-one}
use lib.Dec.{eqb}
use lib.ListN.{length, get_or, set, length-set}
use lib.Seq.{get_or-set_same, get_or-set_other}
use borrow.Author.Tests.{eq-eqb, ne_eqb}
use Rattle.newick.specs.Newick.{Frame, first}
use Rattle.newick_spell.specs.Stands.{is_second, back, comma_under, comma_before, Told, Kept, Closes}

-- ---- one byte back

module _ (k b : ℕ) (r : List ℕ) where
  under-here : b ≡ 40 → k ≡ 0 → comma_under k (b ∷ r) ≡ eqb (get_or r 0 0) 44
  unfolding comma_under
  under-here e z = rw (eq-eqb b 40 e, eq-eqb k 0 z)

  under-out : b ≡ 40 → (k ≡ 0 → ⊥) → comma_under k (b ∷ r) ≡ comma_under (k - 1) r
  unfolding comma_under
  under-out e z = rw (eq-eqb b 40 e, ne_eqb k 0 z)

  under-in : b ≡ 41 → comma_under k (b ∷ r) ≡ comma_under (suc k) r
  unfolding comma_under
  under-in e = rw (ne_eqb b 40 (λ z. omega arith), eq-eqb b 41 e)

  under-on : (b ≡ 40 → ⊥) → (b ≡ 41 → ⊥) → comma_under k (b ∷ r) ≡ comma_under k r
  unfolding comma_under
  under-on p q = rw (ne_eqb b 40 p, ne_eqb b 41 q)

back_last : (i : ℕ) (s : List ℕ) → 0 < i → back i s ≡ get_or s (i - 1) 0 ∷ back (i - 1) s
unfolding back
back_last zero s h = absurd (omega arith)
back_last (suc i) s h = let e : suc i - 1 ≡ i = omega arith in rw e

-- towards an answer c of the whole
module _ (k i : ℕ) (s : List ℕ) (c : Bool) (e : comma_under k (back i s) ≡ c) where
  pub end_none : i ≤ 0 → false ≡ c
  unfolding comma_under back
  end_none h = let z : i ≡ 0 = omega arith in ap (λ (j : ℕ). comma_under k (back j s)) (sym z) ∙ e

  module _ (h : 0 < i) where
    last : comma_under k (get_or s (i - 1) 0 ∷ back (i - 1) s) ≡ c
    last = ap (comma_under k) (sym (back_last i s h)) ∙ e

    module _ (p : get_or s (i - 1) 0 ≡ 40) where
      pub end-first : k ≡ 0 → i - 1 ≡ 0 → false ≡ c
      unfolding back
      end-first z q = ap (λ (j : ℕ). eqb (get_or (back j s) 0 0) 44) (sym q) ∙ sym (under-here k (get_or s (i - 1) 0) (back (i - 1) s) p z) ∙ last

      pub end-here : k ≡ 0 → (i - 1 ≡ 0 → ⊥) → eqb (get_or s (i - 1 - 1) 0) 44 ≡ c
      end-here z q =
          ap (λ (l : List ℕ). eqb (get_or l 0 0) 44) (sym (back_last (i - 1) s (omega arith)))
          ∙ sym (under-here k (get_or s (i - 1) 0) (back (i - 1) s) p z) ∙ last

      pub go-out : (k ≡ 0 → ⊥) → comma_under (k - 1) (back (i - 1) s) ≡ c
      go-out z = sym (under-out k (get_or s (i - 1) 0) (back (i - 1) s) p z) ∙ last

    pub go-in : get_or s (i - 1) 0 ≡ 41 → comma_under (k + 1) (back (i - 1) s) ≡ c
    go-in p = ap (λ (j : ℕ). comma_under j (back (i - 1) s)) (add-one k) ∙ sym (under-in k (get_or s (i - 1) 0) (back (i - 1) s) p) ∙ last

    pub go_on : (get_or s (i - 1) 0 ≡ 40 → ⊥) → (get_or s (i - 1) 0 ≡ 41 → ⊥) → comma_under k (back (i - 1) s) ≡ c
    go_on p q = sym (under-on k (get_or s (i - 1) 0) (back (i - 1) s) p q) ∙ last

pub ruleset comma_laws = (end_none, end-first, end-here, go-out, go-in, go_on)

-- ---- the code of the list

pub set_past : (l : List Bool) (i : ℕ) (x : Bool) → length l ≤ i → l ≡ set l i x
set_past [] i x h = refl
set_past (y ∷ l) zero x h = absurd (omega arith)
set_past (y ∷ l) (suc i) x h = ap (λ (m : List Bool). y ∷ m) (set_past l i x (omega arith))

pub closes_kept : (s : List ℕ) (at outer : ℕ) (l : List Bool) → Closes s at outer l → outer < length l → get_or l outer false ≡ comma_before s at
closes_kept s at outer l h = h.kept

pub ruleset keep_laws = (set_past, closes_kept)

-- ---- a byte that opens or closes a parenthesis

module _ (b : ℕ) (r : List ℕ) (fs : List Frame) where
  pub told-open : b ≡ 40 → eqb (get_or r 0 0) 44 ≡ is_second fs → Told r fs → Told (b ∷ r) (first ∷ fs)
  told-open e h t zero = under-here 0 b r e refl ∙ h
  told-open e h t (suc k) =
      let z : suc k - 1 ≡ k = omega arith in
      under-out (suc k) b r e (λ q. omega arith) ∙ ap (λ (j : ℕ). comma_under j r) z ∙ t k

  pub told-close : (f : Frame) → b ≡ 41 → Told r (f ∷ fs) → Told (b ∷ r) fs
  told-close f e t k = under-in k b r e ∙ t (suc k)

  pub told-on : (b ≡ 40 → ⊥) → (b ≡ 41 → ⊥) → Told r fs → Told (b ∷ r) fs
  told-on p q t k = under-on k b r p q ∙ t k

kept_set : (fs : List Frame) (l : List Bool) (i : ℕ) (x : Bool) → length fs ≤ i → Kept l fs → Kept (set l i x) fs
kept_set [] l i x h K = tt
kept_set (f ∷ fs) l i x h K = (
  λ m. let e : length (set l i x) ≡ length l = length-set l i x in
      get_or-set_other l i (length fs) x false (λ z. omega arith) ∙ K.0 (omega arith),
  kept_set fs l i x (omega arith) K.1,
)

pub kept-open : (fs : List Frame) (l : List Bool) (x : Bool) → x ≡ is_second fs → Kept l fs → Kept (set l (length fs) x) (first ∷ fs)
kept-open fs l x e K = (
  λ h. let z : length (set l (length fs) x) ≡ length l = length-set l (length fs) x in get_or-set_same l (length fs) x false (omega arith) ∙ e,
  kept_set fs l (length fs) x (omega arith) K,
)
