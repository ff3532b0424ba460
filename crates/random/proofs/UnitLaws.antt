-- The ways through the code of a uniform. Its numerator is the difference of two floats that are read from their bits: the bits are no NaN's
-- (`raised-read`, `excess-read`), and the difference is the draw's top 53 bits (`numerator-is`). Times 2 ^ -53 that is the uniform (`unit-is`).
-- Assumes nothing.
use Rattle.std.proofs.Common.{◌≡◌, ℕ, zero, suc, ◌+◌, ◌-◌, ◌*◌, ◌/◌, ◌%◌, ◌^◌, ◌<◌, ◌≤◌, Bool, false, not, T, pos, refl, ap, ◌∙◌, mul-one, mul_right_comm, arith, lit<, w64, Fits, le-ltb}
use native.Mathlib.Nat.{eq_of_mul-eq-mul_right}
use lib.Ieee.{Float, nan, inf, fin, binary64, up, down, sum, sub, mul, of_int, of_fields, of_bits, nan_bits}
use lib.Ieee.Exact.{HasValue, odd_sign}
use borrow.Author.Tests.{lt-leb}
use Rattle.random.specs.Generator.{uniform_of}
use Rattle.random.specs.SumLaws.{sub-sum}
use Rattle.random.specs.UniformLaws.{two_to_minus53, product-uniform}

-- the bits of 2 ^ 52, whose last places count 1
abbrev two_to52_bits : ℕ
two_to52_bits = 0x4330_0000_0000_0000

-- a fraction whose numerator is a multiple of its denominator
reduced : (x : Float) (s : Bool) (a c : ℕ) → 0 < c → HasValue x s (a * c) c → HasValue x s a 1
reduced nan s a c p v = v
reduced (inf t) s a c p v = v
reduced (fin t m e) s a c p v =
    (v.0, eq_of_mul-eq-mul_right c p (m * up e * 1) (a * down e) (ap (λ (z : ℕ). z * c) (mul-one (m * up e)) ∙ v.1 ∙ mul_right_comm a c (down e)))

-- 2 ^ 52 with t in its last places
module _ (t : ℕ) (h : t < 2 ^ 52) where
  exponent : (two_to52_bits + t) % 2 ^ 63 / 2 ^ 52 ≡ 1075
  exponent = omega arith

  places-read : T (not (nan_bits binary64 (two_to52_bits + t)))
  unfolding nan_bits
  places-read = rw exponent tt

  places-value : HasValue (of_bits binary64 (two_to52_bits + t)) false (2 ^ 52 + t) 1
  unfolding of_bits of_fields
  places-value =
      let q : (two_to52_bits + t) % 2 ^ 52 ≡ t = omega arith in
      reduced (of_bits binary64 (two_to52_bits + t)) false (2 ^ 52 + t) (2 ^ 1074) (lit< tt)
      (rw (lt-leb (2 ^ 63) (two_to52_bits + t) (omega arith), exponent, q) (odd_sign 53 false (2 ^ 52 + t) 1074 1074))

-- 2 ^ 52, or nothing
once-read : (k : ℕ) → k ≤ 1 → T (not (nan_bits binary64 (two_to52_bits * k)))
unfolding nan_bits
once-read zero h = tt
once-read (suc zero) h = tt
once-read (suc (suc k)) h = absurd (omega arith)

once-value : (k : ℕ) → k ≤ 1 → HasValue (of_bits binary64 (two_to52_bits * k)) false (2 ^ 52 * k) 1
unfolding of_bits
once-value zero h = (refl, refl)
once-value (suc zero) h = (refl, refl)
once-value (suc (suc k)) h = absurd (omega arith)

-- a whole number less another
whole-less : (x y : Float) (a b : ℕ) → b ≤ a → HasValue x false a 1 → HasValue y false b 1 → sub binary64 x y ≡ of_int binary64 (pos (a - b))
unfolding sum of_int
whole-less x y a b h v w = rw (sub-sum a b 1 (lit< tt) false false x y v w, le-ltb a b h)

-- the lower 52 of a draw's top 53 bits, and whether the top one is 0
abbrev lower : ℕ → ℕ
lower w = w * 2 ^ 1 % 2 ^ 64 / 2 ^ 12

abbrev excess : ℕ → ℕ
excess w = 1 - w / 2 ^ 63

module _ (w : ℕ) (h : Fits w64 w) where
  pub raised-read : T (not (nan_bits binary64 (two_to52_bits + lower w)))
  raised-read = places-read (lower w) (omega arith)

  pub excess-read : T (not (nan_bits binary64 (two_to52_bits * excess w)))
  excess-read = once-read (excess w) (omega arith)

  pub numerator-is : sub binary64 (of_bits binary64 (two_to52_bits + lower w)) (of_bits binary64 (two_to52_bits * excess w)) ≡ of_int binary64 (pos (w / 2 ^ 11))
  numerator-is =
      let z = h.fits in
      let n : 2 ^ 52 + lower w - 2 ^ 52 * excess w ≡ w / 2 ^ 11 = omega arith in
      whole-less _ _ (2 ^ 52 + lower w) (2 ^ 52 * excess w) (omega arith) (places-value (lower w) (omega arith)) (once-value (excess w) (omega arith))
      ∙ ap (λ (k : ℕ). of_int binary64 (pos k)) n

  pub unit-is : (n : Float) → n ≡ of_int binary64 (pos (w / 2 ^ 11)) → mul binary64 n two_to_minus53 ≡ uniform_of w
  unit-is n e = rw e (product-uniform w h.fits)

pub ruleset unit_laws = (raised-read, excess-read, numerator-is, unit-is)
