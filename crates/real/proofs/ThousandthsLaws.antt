-- The ways through `thousandths` and `print_age`: the whole thousandths of an age, from the fields of its bits. Assumes nothing.
use mathlib.Core.Path.{◌≡◌, refl, sym, ap, ◌∙◌, subst}
use mathlib.Core.Bool.{true, false, not, true≢false}
use Prim.Native.Nat.{ℕ, ◌+◌, ◌-◌, ◌*◌, ◌/◌, ◌^◌, ◌≤◌, ◌<◌}
use native.Mathlib.Nat.{le_of_eq, lt_irrefl, lt_of_le_of_lt, lt_of_lt_of_le, lt_of_not-le, mod-lt, div-eq_of_lt, le-add_right, mul_assoc, mul_right_comm, mul-le-mul_right, mul-lt-mul_of_pos_right}
use native.Mathlib.Omega.{arith}
use lib.Dec.{T, ltb→lt, lit<, lit≤}
use lib.Pow.{pow-add, pow_pos, pow_mono}
use lib.Ieee.{Float, nan, inf, fin, binary64, fits, lt, le, of_bits, to_bits}
use lib.Ieee.Bits.{of_bits-fits, of_bits-to_bits, is_true, is_false}
use lib.Ieee.Nearest.{div_same}
use lib.Ieee.Positive.{num, den, den_pos}
use lib.Ieee.Scale.{finite}
use Rattle.real.specs.Real.{zero}
use Rattle.real.specs.Printed.{print_limit, Printable, thousandths_of, printed_of}
use Rattle.real.specs.Ages.{age_of}
use Rattle.real.specs.OrderLaws.{nlt→le, nle→lt, not_negative}
use Rattle.real.specs.FieldLaws.{field, digits, age-small, age-large, age-units}
use Rattle.real.specs.AgeLaws.{Age, lt-is}
use Rattle.real.specs.PrintedLaws.{printable-finite, zero-finite, limit-finite}
use Rattle.std.specs.Prelude.{Some, None}

-- ---- an age that is printed

limit-sign : T (not (lt print_limit zero))
unfolding lt of_bits
limit-sign = tt

age-of : (x : Float) → T (fits binary64 x) → T (finite x) → T (not (lt x zero)) → Age x
age-of x F X h = record { held = F; number = X; sign = nlt→le x zero X zero-finite h }

limit-units : age_of print_limit ≡ 2 ^ 1117
unfolding age_of of_bits
limit-units = refl

-- ---- fields

pow_lt_back : (i j : ℕ) → 2 ^ i < 2 ^ j → i < j
pow_lt_back i j h = lt_of_not-le (λ (g : j ≤ i). lt_irrefl (2 ^ i) (lt_of_lt_of_le h (pow_mono g)))

-- an age below 2 ^ 43 has a field of 1065 at most
field-le : (y t : ℕ) → (2 ^ 52 + t) * 2 ^ (y - 1) < 2 ^ 1117 → y ≤ 1065
field-le y t h =
    let k : 2 ^ 52 * 2 ^ (y - 1) ≤ (2 ^ 52 + t) * 2 ^ (y - 1) = mul-le-mul_right (2 ^ (y - 1)) (le-add_right (2 ^ 52) t) in
    let g : 52 + (y - 1) < 1117 = pow_lt_back (52 + (y - 1)) 1117 (lt_of_le_of_lt (le_of_eq (pow-add 2 52 (y - 1))) (lt_of_le_of_lt k h)) in
    omega (arith, g)

-- m * 2 ^ (y - 1) units of 2 ^ -1074 are m units of 2 ^ -(1075 - y)
shifted : (y m : ℕ) → (y ≡ 0 → ⊥) → y ≤ 1065 → m * 2 ^ (y - 1) * 1000 / 2 ^ 1074 ≡ m * 1000 / 2 ^ (1075 - y)
shifted y m h k =
    let e : y - 1 + (1075 - y) ≡ 1074 = omega arith in
    let g : 2 ^ (y - 1) * 2 ^ (1075 - y) ≡ 2 ^ 1074 = sym (pow-add 2 (y - 1) (1075 - y)) ∙ ap (λ (z : ℕ). 2 ^ z) e in
    div_same (m * 2 ^ (y - 1) * 1000) (2 ^ 1074) (m * 1000) (2 ^ (1075 - y)) (pow_pos 1074) (pow_pos (1075 - y))
    (ap (λ (z : ℕ). z * 2 ^ (1075 - y)) (mul_right_comm m (2 ^ (y - 1)) 1000)
    ∙ mul_assoc (m * 1000) (2 ^ (y - 1)) (2 ^ (1075 - y))
    ∙ ap (λ (z : ℕ). m * 1000 * z) g)

-- less than a unit
small-none : (t : ℕ) → t < 2 ^ 52 → t * 1000 / 2 ^ 1074 ≡ 0
small-none t h = div-eq_of_lt (lt_of_lt_of_le (mul-lt-mul_of_pos_right {k = 1000} h (lit< tt)) (lit≤ tt))

far_none : (t k : ℕ) → t < 2 ^ 52 → 64 ≤ k → (2 ^ 52 + t) * 1000 / 2 ^ k ≡ 0
far_none t k h g = div-eq_of_lt (lt_of_lt_of_le (omega arith) (pow_mono g))

-- ---- `thousandths`, for the bits n of x

module _ (x : Float) (n : ℕ) (e : n ≡ to_bits binary64 x) (F : T (fits binary64 x)) (P : Printable x) where
  X : T (finite x)
  X = printable-finite x P.low P.high

  bits : of_bits binary64 n ≡ x
  bits = ap (of_bits binary64) e ∙ of_bits-to_bits binary64 x F

  under-limit : age_of x < 2 ^ 1117
  under-limit =
      let A = age-of x F X P.low in
      let L = age-of print_limit (of_bits-fits binary64 _) limit-finite limit-sign in
      subst (λ (z : ℕ). age_of x < z) limit-units (ltb→lt (age_of x) (age_of print_limit) (subst T (lt-is x print_limit A L) P.high))

  by-age : thousandths_of x ≡ age_of x * 1000 / 2 ^ 1074
  unfolding thousandths_of
  by-age =
      div_same (num x * 1000) (den x) (age_of x * 1000) (2 ^ 1074) (den_pos x) (pow_pos 1074)
      (mul_right_comm (num x) 1000 (2 ^ 1074) ∙ ap (λ (z : ℕ). z * 1000) (age-units x F X) ∙ mul_right_comm (age_of x) (den x) 1000)

  pub no-exponent : field n ≡ 0 → 0 ≡ thousandths_of x
  no-exponent h = sym (by-age ∙ ap (λ (z : ℕ). z * 1000 / 2 ^ 1074) (age-small x n bits X h) ∙ small-none (digits n) (mod-lt n (pow_pos 52)))

  exponent-le : (field n ≡ 0 → ⊥) → field n ≤ 1065
  exponent-le h = field-le (field n) (digits n) (subst (λ (z : ℕ). z < 2 ^ 1117) (age-large x n bits X h) under-limit)

  pub shift_fits : (field n ≡ 0 → ⊥) → field n ≤ 1075
  shift_fits h = let g = exponent-le h in omega (arith, g)

  pub shift-out : (field n ≡ 0 → ⊥) → (2 ^ 52 + digits n) * 1000 / 2 ^ (1075 - field n) ≡ thousandths_of x
  shift-out h = sym (by-age ∙ ap (λ (z : ℕ). z * 1000 / 2 ^ 1074) (age-large x n bits X h) ∙ shifted (field n) (2 ^ 52 + digits n) h (exponent-le h))

  pub all-out : (field n ≡ 0 → ⊥) → 64 ≤ 1075 - field n → 0 ≡ thousandths_of x
  all-out h k = sym (far_none (digits n) (1075 - field n) (mod-lt n (pow_pos 52)) k) ∙ shift-out h

-- ---- `print_age`

-- a float that is not below zero
level : (x : Float) → le zero x ≡ true → lt x zero ≡ false
unfolding lt le of_bits
level nan h = refl
level (inf true) h = absurd (true≢false (sym h))
level (inf false) h = refl
level (fin s m e) h = is_false (lt (fin s m e) zero) (not_negative zero (fin s m e) tt tt tt (rw h tt))

module _ (x : Float) where
  pub too_young : le zero x ≡ false → None ≡ printed_of x
  unfolding printed_of lt le of_bits
  too_young = go x
    where
      go : (x : Float) → le zero x ≡ false → None ≡ printed_of x
      go nan h = refl
      go (inf true) h = refl
      go (inf false) h = absurd (true≢false h)
      go (fin s m e) h = rw (is_true (lt (fin s m e) zero) (nle→lt zero (fin s m e) tt tt (rw h tt)))

  pub too_old : le zero x ≡ true → lt x print_limit ≡ false → None ≡ printed_of x
  unfolding printed_of
  too_old h k = rw (level x h, k)

  pub in-print : le zero x ≡ true → lt x print_limit ≡ true → Printable x
  in-print h k = record { low = rw (level x h) tt; high = rw k tt }

  pub in-thousandths : (n : ℕ) → le zero x ≡ true → lt x print_limit ≡ true → n ≡ thousandths_of x → Some n ≡ printed_of x
  unfolding printed_of
  in-thousandths n h k e = rw (level x h, k, e)

pub ruleset thousandths_laws = (no-exponent, shift_fits, shift-out, all-out, too_young, too_old, in-print, in-thousandths)
