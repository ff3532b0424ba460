-- When a product is finite: a float that is not negative and at most another gives a finite product where the other one does (`product-finite`).
-- Assumes nothing.
use Rattle.std.specs.Prelude.{◌≡◌, refl, Bool, true, false, not, cond, ℕ, zero, suc, ◌+◌, ◌*◌, ◌^◌, ◌≤◌, ◌<◌, T, ltb, eqb, ℤ, Float}
use Rattle.std.proofs.Common.{sym, ◌∙◌, mul_assoc, mul_left_comm, mul-le-mul_right, mul-pos, arith}
use Rattle.std.specs.Float.{nan, inf, fin, Format, binary64}
use Rattle.std.specs.Float.Ieee.{prec, emax, low, up, down, span, climb, size, odd, units, round, mul, lt, le, unlike, of_bits}
use Rattle.std.specs.Float.Ieee.Fits.{down_pos, round_is}
use Rattle.std.specs.Float.Ieee.Order.{round_mono}
use Rattle.std.specs.Float.Ieee.Scale.{finite}
use Rattle.real.specs.Real as Real
use Rattle.real.specs.CrossLaws.{Most, le→most, nlt→most}
use Rattle.real.specs.OrderLaws.{between}

-- ---- a rounded fraction is finite whatever its sign

odd-finite : (d : ℕ) (s : Bool) (q k l : ℕ) → finite (odd d s q k l) ≡ true
unfolding odd
odd-finite d s zero k l = refl
odd-finite d s (suc q) k l = refl

units-sign : (f : Format) (s : Bool) (q k : ℕ) → finite (units f s q k) ≡ finite (units f false q k)
unfolding units
units-sign f s q k = go (ltb (q * 2 ^ k) (2 ^ (low f + suc (emax f))))
  where
    go : (b : Bool) → finite (cond b (odd (suc (prec f)) s q k (low f)) (inf s)) ≡ finite (cond b (odd (suc (prec f)) false q k (low f)) (inf false))
    go true = odd-finite (suc (prec f)) s q k (low f) ∙ sym (odd-finite (suc (prec f)) false q k (low f))
    go false = refl

round-sign : (f : Format) (s : Bool) (a c : ℕ) → finite (round f s a c) ≡ finite (round f false a c)
round-sign f s a c = rw (round_is f s a c, round_is f false a c) (units-sign f s _ _)

-- ---- a smaller fraction

-- nothing, rounded
none-finite : T (finite (round binary64 false 0 1))
unfolding round units odd size span climb
none-finite = tt

-- where a / b is at most c / d, it is finite once rounded if c / d is
pub smaller-finite : (s t : Bool) (a b c d : ℕ) → 0 < b → 0 < d → a * d ≤ c * b → T (finite (round binary64 t c d)) → T (finite (round binary64 s a b))
smaller-finite s t a b c d B D h g =
    let l : T (le (round binary64 false 0 1) (round binary64 false a b)) = round_mono binary64 0 1 a b (omega arith) B (omega arith) in
    rw (round-sign binary64 s a b)
    (between (round binary64 false 0 1) (round binary64 false a b) (round binary64 false c d) none-finite (rw (round-sign binary64 t c d) at g) l
    (round_mono binary64 a b c d B D h))

-- ---- products

-- where a / d is at most b / e, so are their products with k / g
pub cross : (a d b e k g : ℕ) → a * e ≤ b * d → a * k * (e * g) ≤ b * k * (d * g)
cross a d b e k g h =
    let x : a * k * (e * g) ≡ a * e * (k * g) = simp (mul_assoc, mul_left_comm) in
    let y : b * k * (d * g) ≡ b * d * (k * g) = simp (mul_assoc, mul_left_comm) in
    rw (x, y) (mul-le-mul_right (k * g) h)

-- no size is above that of a larger float, where the smaller is not negative
pub size-le : (s t : Bool) (m n : ℕ) (e d : ℤ) → T (not (lt (fin s m e) Real.zero)) → T (le (fin s m e) (fin t n d)) → m * up e * down d ≤ n * up d * down e
unfolding of_bits
size-le s t m n e d p h = go s t (nlt→most (fin s m e) Real.zero tt tt p) (le→most (fin s m e) (fin t n d) tt tt h)
  where
    go : (s t : Bool) → Most Real.zero (fin s m e) → Most (fin s m e) (fin t n d) → m * up e * down d ≤ n * up d * down e
    go false false a b = omega arith
    go false true a b = omega arith
    go true t a b = let z : m * up e ≡ 0 = omega arith in rw z (omega arith)

-- a product with an infinity is not finite
pub no-product : (b s : Bool) → T (finite (cond b nan (inf s))) → ⊥
no-product true s h = h
no-product false s h = h

-- a float that is not negative, and at most one whose product with f is finite, has a finite product with f
pub product-finite : (x y f : Float) → T (finite x) → T (finite y) → T (not (lt x Real.zero)) → T (le x y) → T (finite (mul binary64 y f)) → T (finite (mul binary64 x f))
unfolding mul
product-finite nan y f X Y p h g = absurd X
product-finite (inf s) y f X Y p h g = absurd X
product-finite (fin s m e) nan f X Y p h g = absurd Y
product-finite (fin s m e) (inf t) f X Y p h g = absurd Y
product-finite (fin s m e) (fin t n d) nan X Y p h g = absurd g
product-finite (fin s m e) (fin t n d) (inf w) X Y p h g = absurd (no-product (eqb n 0) (unlike t w) g)
product-finite (fin s m e) (fin t n d) (fin w k c) X Y p h g =
    smaller-finite (unlike s w) (unlike t w) (m * up e * (k * up c)) (down e * down c) (n * up d * (k * up c)) (down d * down c) (mul-pos (down_pos e) (down_pos c))
    (mul-pos (down_pos d) (down_pos c)) (cross (m * up e) (down e) (n * up d) (down d) (k * up c) (down c) (size-le s t m n e d p h)) g
