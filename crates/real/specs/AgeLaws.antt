-- On ages, which are finite and not negative, the comparisons of floats are those of natural numbers (`lt-is`, `le_is`).
-- So a goal about heights becomes one about `age_of`. Assumes nothing.
use Rattle.std.specs.Prelude.{◌≡◌, refl, Bool, true, false, ℕ, ◌+◌, ◌*◌, ◌^◌, ◌≤◌, ◌<◌, T, ltb, leb, Float}
use Rattle.std.proofs.Common.{sym, ap, ◌∙◌, mul-pos, mul-le-mul_right, mul-lt-mul_of_pos_right, lt_of_mul-lt-mul_right, le_of_mul-le-mul_right, arith, ltb→lt, lt→ltb, leb→le, le→leb, pow_pos}
use Rattle.std.specs.Float.{nan, inf, fin, binary64}
use Rattle.std.specs.Float.Ieee.{fits, lt, le, of_bits}
use Rattle.std.specs.Float.Ieee.Positive.{num, den, den_pos}
use Rattle.std.specs.Float.Ieee.Scale.{finite}
use Rattle.real.specs.Real.{zero}
use Rattle.real.specs.Ages.{age_of}
use Rattle.real.specs.CrossLaws.{over, under, lt→less, less→lt, le→most, most→le}
use Rattle.real.specs.FieldLaws.{age-units}

-- an f64 that is finite and not negative; -0.0 is not negative
pub record Age (x : Float) : Type 0 where
  pub held : T (fits binary64 x)
  pub number : T (finite x)
  pub sign : T (le zero x)

-- ---- an age has no part under zero

nothing-under : (x : Float) → T (finite x) → T (le zero x) → under x ≡ 0
unfolding of_bits
nothing-under nan X h = absurd X
nothing-under (inf s) X h = absurd X
nothing-under (fin false m e) X h = refl
nothing-under (fin true m e) X h = let g = le→most zero (fin true m e) tt X h in omega (arith, g)

all-over : (x : Float) → under x ≡ 0 → over x ≡ num x
all-over nan h = refl
all-over (inf s) h = refl
all-over (fin false m e) h = refl
all-over (fin true m e) h = sym h

module _ (x : Float) (A : Age x) where
  none : under x ≡ 0
  none = nothing-under x A.number A.sign

  exact : over x * 2 ^ 1074 ≡ age_of x * den x
  exact = ap (λ (z : ℕ). z * 2 ^ 1074) (all-over x none) ∙ age-units x A.held A.number

-- ---- p / d and q / e, with nothing under zero, are a and b units, of which there are g to one

module _ (p u d q v e a b g : ℕ) (D : 0 < d) (E : 0 < e) (G : 0 < g) (i : u ≡ 0) (j : v ≡ 0) (h : p * g ≡ a * d) (k : q * g ≡ b * e) where
  left : (p * e + v * d) * g ≡ a * (d * e)
  left = rw j (let l = ap (λ (z : ℕ). z * e) h in omega (arith, l))

  right : (q * d + u * e) * g ≡ b * (d * e)
  right = rw i (let l = ap (λ (z : ℕ). z * d) k in omega (arith, l))

  less→units : p * e + v * d < q * d + u * e → a < b
  less→units l = let m = mul-lt-mul_of_pos_right l G in lt_of_mul-lt-mul_right (d * e) (rw (← left, ← right) m)

  units→less : a < b → p * e + v * d < q * d + u * e
  units→less l = let m = mul-lt-mul_of_pos_right l (mul-pos D E) in lt_of_mul-lt-mul_right g (rw (left, right) m)

  most→units : p * e + v * d ≤ q * d + u * e → a ≤ b
  most→units l = let m = mul-le-mul_right g l in le_of_mul-le-mul_right {k = d * e} (rw (← left, ← right) m) (mul-pos D E)

  units→most : a ≤ b → p * e + v * d ≤ q * d + u * e
  units→most l = let m = mul-le-mul_right (d * e) l in le_of_mul-le-mul_right {k = g} (rw (left, right) m) G

-- ---- the comparisons

same_test : (a b : Bool) → (T a → T b) → (T b → T a) → a ≡ b
same_test true true f g = refl
same_test true false f g = absurd (f tt)
same_test false true f g = absurd (g tt)
same_test false false f g = refl

module _ (x y : Float) (A : Age x) (B : Age y) where
  pub lt-is : lt x y ≡ ltb (age_of x) (age_of y)
  lt-is =
      same_test (lt x y) (ltb (age_of x) (age_of y))
      (λ h. lt→ltb (age_of x) (age_of y)
      (less→units _ _ _ _ _ _ _ _ _ (den_pos x) (den_pos y) (pow_pos 1074) (none x A) (none y B) (exact x A) (exact y B)
      (lt→less x y A.number B.number h)))
      (λ h. less→lt x y A.number B.number
      (units→less _ _ _ _ _ _ _ _ _ (den_pos x) (den_pos y) (pow_pos 1074) (none x A) (none y B) (exact x A) (exact y B)
      (ltb→lt (age_of x) (age_of y) h)))

  pub le_is : le x y ≡ leb (age_of x) (age_of y)
  le_is =
      same_test (le x y) (leb (age_of x) (age_of y))
      (λ h. le→leb (age_of x) (age_of y)
      (most→units _ _ _ _ _ _ _ _ _ (den_pos x) (den_pos y) (pow_pos 1074) (none x A) (none y B) (exact x A) (exact y B)
      (le→most x y A.number B.number h)))
      (λ h. most→le x y A.number B.number
      (units→most _ _ _ _ _ _ _ _ _ (den_pos x) (den_pos y) (pow_pos 1074) (none x A) (none y B) (exact x A) (exact y B)
      (leb→le (age_of x) (age_of y) h)))
