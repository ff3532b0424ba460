-- A finite f64's size is a whole number of units of 2 ^ -1074, its `age_of` (`age-units`), which its bits show in two
-- fields (`age-small`, `age-large`). Assumes nothing.
use Rattle.std.specs.Prelude.{◌≡◌, refl, Bool, true, false, cond, ℕ, zero, suc, ◌+◌, ◌-◌, ◌*◌, ◌/◌, ◌%◌, ◌^◌, T, leb, eqb, Float}
use Rattle.std.proofs.Common.{sym, ap, ◌∙◌, subst, mul-one, mul-div_cancel, arith}
use Rattle.std.specs.Float.{nan, inf, fin, binary64}
use Rattle.std.specs.Float.Ieee.{fits, odd, top, of_fields, of_bits, to_bits}
use Rattle.std.specs.Float.Ieee.Bits.{of_bits-to_bits}
use Rattle.std.specs.Float.Ieee.Exact.{HasValue, odd_sign}
use Rattle.std.specs.Float.Ieee.Positive.{num, den, den_pos}
use Rattle.std.specs.Float.Ieee.Scale.{finite}
use Rattle.real.specs.Ages.{age_of}

-- the exponent's field and the digits of the bits n
abbrev pub field : ℕ → ℕ
field n = n % 2 ^ 63 / 2 ^ 52

abbrev pub digits : ℕ → ℕ
digits n = n % 2 ^ 52

-- the units that a field and digits stand for
abbrev pub units_of : ℕ → ℕ → ℕ
units_of zero t = t
units_of (suc y) t = (2 ^ 52 + t) * 2 ^ y

-- x is a units in size
abbrev Units : Float → ℕ → Type 0
Units x a = num x * 2 ^ 1074 ≡ a * den x

valued : (x : Float) (s : Bool) (a : ℕ) → HasValue x s a (2 ^ 1074) → Units x a
valued nan s a h = absurd h
valued (inf t) s a h = absurd h
valued (fin t m e) s a h = h.1

none-finite : (s c : Bool) → T (finite (cond c (inf s) nan)) → ⊥
none-finite s true h = h
none-finite s false h = h

of-fields : (s : Bool) (y t : ℕ) → T (finite (of_fields binary64 s y t)) → Units (of_fields binary64 s y t) (units_of y t)
unfolding of_fields
of-fields s zero t h = subst (Units (odd 53 s t 0 1074)) (mul-one t) (valued (odd 53 s t 0 1074) s (t * 1) (odd_sign 53 s t 0 1074))
of-fields s (suc y) t h = go (eqb (suc y) 2047) h
  where
    go : (b : Bool) → T (finite (cond b (cond (eqb t 0) (inf s) nan) (odd 53 s (2 ^ 52 + t) y 1074)))
        → Units (cond b (cond (eqb t 0) (inf s) nan) (odd 53 s (2 ^ 52 + t) y 1074)) ((2 ^ 52 + t) * 2 ^ y)
    go true k = absurd (none-finite s (eqb t 0) k)
    go false k = valued (odd 53 s (2 ^ 52 + t) y 1074) s ((2 ^ 52 + t) * 2 ^ y) (odd_sign 53 s (2 ^ 52 + t) y 1074)

of-bits : (n : ℕ) → T (finite (of_bits binary64 n)) → Units (of_bits binary64 n) (units_of (field n) (digits n))
unfolding of_bits
of-bits n h = of-fields (leb (top binary64) n) (field n) (digits n) h

age-is : (x : Float) (a : ℕ) → Units x a → age_of x ≡ a
unfolding age_of
age-is x a h = ap (λ (z : ℕ). z / den x) h ∙ mul-div_cancel a (den_pos x)

units-none : (y t : ℕ) → y ≡ 0 → units_of y t ≡ t
units-none y t h = rw h

units-some : (y t : ℕ) → (y ≡ 0 → ⊥) → units_of y t ≡ (2 ^ 52 + t) * 2 ^ (y - 1)
units-some zero t h = absurd (h refl)
units-some (suc y) t h = let e : y ≡ suc y - 1 = omega arith in ap (λ (z : ℕ). (2 ^ 52 + t) * 2 ^ z) e

-- n are the bits of x
module _ (x : Float) (n : ℕ) (e : of_bits binary64 n ≡ x) (X : T (finite x)) where
  shown : Units x (units_of (field n) (digits n))
  shown = subst (λ (z : Float). Units z (units_of (field n) (digits n))) e (of-bits n (subst (λ (z : Float). T (finite z)) (sym e) X))

  age-shown : age_of x ≡ units_of (field n) (digits n)
  age-shown = age-is x (units_of (field n) (digits n)) shown

  pub age-small : field n ≡ 0 → age_of x ≡ digits n
  age-small h = age-shown ∙ units-none (field n) (digits n) h

  pub age-large : (field n ≡ 0 → ⊥) → age_of x ≡ (2 ^ 52 + digits n) * 2 ^ (field n - 1)
  age-large h = age-shown ∙ units-some (field n) (digits n) h

pub age-units : (x : Float) → T (fits binary64 x) → T (finite x) → num x * 2 ^ 1074 ≡ age_of x * den x
age-units x F X =
    let e : of_bits binary64 (to_bits binary64 x) ≡ x = of_bits-to_bits binary64 x F in
    subst (Units x) (sym (age-shown x (to_bits binary64 x) e X)) (shown x (to_bits binary64 x) e X)
