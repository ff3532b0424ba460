-- Floats that are finite and not negative, -0.0 among them (`NotNegative`): a minus sign there is that of a zero. In order: fractions with such a
-- sign, rounded; sums, differences, products and quotients are not negative where they are finite (`add-not-negative` to `div-not-negative`);
-- products with a factor keep the order (`times-le`); a zero's sign takes no part in a sum (`add-magnitude`); and what is finite was made of what is finite
-- (`add-finite-right` to `mul-finite-right`). MonotoneLaws is on floats without a minus sign. Assumes nothing.
use Rattle.std.specs.Prelude.{◌≡◌, refl, Bool, true, false, not, cond, ℕ, ◌+◌, ◌-◌, ◌*◌, ◌^◌, ◌≤◌, ◌<◌, T, ltb, eqb, ℤ, Float}
use Rattle.std.proofs.Common.{sym, ◌∙◌, true≢false, le_of_mul-le-mul_right, mul-pos, arith, le-ltb, ne_eqb, lit<}
use Rattle.std.proofs.Math.Dec.{not_T}
use Rattle.std.specs.Float.{nan, inf, fin, binary64}
use Rattle.std.specs.Float.Ieee.{up, down, round, sum, add, sub, mul, div, lt, le, unlike, of_bits}
use Rattle.std.specs.Float.Ieee.Exact.{HasValue, round_exact}
use Rattle.std.specs.Float.Ieee.Fits.{down_pos}
use Rattle.std.specs.Float.Ieee.Order.{round_mono}
use Rattle.std.specs.Float.Ieee.Positive.{first_pos}
use Rattle.std.specs.Float.Ieee.Scale.{finite}
use Rattle.real.specs.Real as Real
use Rattle.real.specs.CrossLaws.{lt→less, most→le, nlt→most}
use Rattle.real.specs.OrderLaws.{lt-le-absurd, le_trans, nlt→le}
use Rattle.real.specs.ProductLaws.{cross, size-le, no-product}
use Rattle.real.specs.MonotoneLaws.{unsigned, unsigned-finite, rounded-unsigned, zero-le, over_zero, sub-unsigned}

-- a float above zero has no minus sign
pub positive-unsigned : (x : Float) → T (lt Real.zero x) → T (finite x) → T (unsigned x)
unfolding of_bits
positive-unsigned nan h X = absurd X
positive-unsigned (inf s) h X = absurd X
positive-unsigned (fin true m e) h X = let g = lt→less Real.zero (fin true m e) tt tt h in absurd (omega (arith, g))
positive-unsigned (fin false m e) h X = tt

-- x is finite and not negative
pub record NotNegative (x : Float) : Type 0 where
  pub number : T (finite x)
  pub positive : T (not (lt x Real.zero))

-- it is at least zero
pub least_zero : (x : Float) → NotNegative x → T (le Real.zero x)
unfolding of_bits
least_zero x X = nlt→le x Real.zero X.number tt X.positive

-- and a finite float that is at least zero is not negative
from_zero : (x : Float) → T (finite x) → T (le Real.zero x) → NotNegative x
unfolding of_bits
from_zero x X h = record { number = X; positive = not_T (lt x Real.zero) (λ q. lt-le-absurd x Real.zero X tt q h) }

-- nor is one without a minus sign
pub unsigned-not-negative : (x : Float) → T (unsigned x) → NotNegative x
unsigned-not-negative x X = from_zero x (unsigned-finite x X) (zero-le x X)

-- a minus sign is that of a zero
signed-zero : (s : Bool) (m : ℕ) (e : ℤ) → NotNegative (fin s m e) → s ≡ true → m * up e ≡ 0
unfolding of_bits
signed-zero true m e X q = let g = nlt→most (fin true m e) Real.zero tt tt X.positive in omega (arith, g)
signed-zero false m e X q = absurd (true≢false (sym q))

-- ---- naturals

none : (a d : ℕ) → 0 < d → a * d ≤ 0 → a ≡ 0
none a d D h = let g : a ≤ 0 = le_of_mul-le-mul_right {k = d} (omega arith) D in omega arith

none-times : (a b : ℕ) → a ≡ 0 → a * b ≡ 0
none-times a b z = rw z (omega arith)

nothing : (c g : ℕ) → 0 * g ≡ 0 * 1 * c
nothing c g = omega arith

-- ---- a fraction a / c with the sign s, which is that of a zero, rounded

-- z is zero by value
record Nought (z : Float) : Type 0 where
  number : T (finite z)
  most : T (le z Real.zero)
  least : T (le Real.zero z)

nought-value : (z : Float) (s : Bool) (c : ℕ) → 0 < c → HasValue z s 0 c → Nought z
unfolding of_bits
nought-value nan s c C h = absurd h
nought-value (inf t) s c C h = absurd h
nought-value (fin t m e) s c C h = go t (none (m * up e) c C (let g = h.1 in omega (arith, g)))
  where
    go : (t : Bool) → m * up e ≡ 0 → Nought (fin t m e)
    go true z = record { number = tt; most = most→le (fin true m e) Real.zero tt tt (omega (arith, z)); least = most→le Real.zero (fin true m e) tt tt (omega (arith, z)) }
    go false z = record { number = tt; most = most→le (fin false m e) Real.zero tt tt (omega (arith, z)); least = most→le Real.zero (fin false m e) tt tt (omega (arith, z)) }

-- zero, rounded, is zero
round-nought : (s : Bool) (a c : ℕ) → 0 < c → a ≡ 0 → Nought (round binary64 s a c)
round-nought s a c C z = rw z (nought-value (round binary64 s 0 c) s c C (round_exact binary64 s 0 c 0 0 C (lit< tt) (lit< tt) (nothing c (2 ^ 1074))))

-- it is not negative
rounded : (s : Bool) (a c : ℕ) → 0 < c → (s ≡ true → a ≡ 0) → T (finite (round binary64 s a c)) → NotNegative (round binary64 s a c)
rounded true a c C A F = from_zero (round binary64 true a c) F (round-nought true a c C (A refl)).least
rounded false a c C A F = unsigned-not-negative (round binary64 false a c) (rounded-unsigned a c F)

-- zero is at most what is not negative
under-rounded : (s t : Bool) (a c b d : ℕ) → 0 < c → 0 < d → a ≡ 0 → (t ≡ true → b ≡ 0) → T (finite (round binary64 t b d))
    → T (le (round binary64 s a c) (round binary64 t b d))
unfolding of_bits
under-rounded s t a c b d C D z B F =
    let n = round-nought s a c C z in
    le_trans (round binary64 s a c) Real.zero (round binary64 t b d) n.number tt F n.most (least_zero (round binary64 t b d) (rounded t b d D B F))

-- a smaller fraction is not above a larger one
round-le : (s t : Bool) (a c b d : ℕ) → 0 < c → 0 < d → (s ≡ true → a ≡ 0) → (t ≡ true → b ≡ 0) → a * d ≤ b * c → T (finite (round binary64 t b d))
    → T (le (round binary64 s a c) (round binary64 t b d))
round-le true t a c b d C D A B h F = under-rounded true t a c b d C D (A refl) B F
round-le false true a c b d C D A B h F = under-rounded false true a c b d C D (none a d D (let z = none-times b c (B refl) in omega arith)) B F
round-le false false a c b d C D A B h F = round_mono binary64 a c b d C D h

-- ---- sums and differences

unmarked : {X : Type 0} → false ≡ true → X
unmarked q = absurd (true≢false (sym q))

sum-not-negative : (s t : Bool) (a b c : ℕ) → 0 < c → (s ≡ true → a ≡ 0) → (t ≡ true → b ≡ 0) → T (finite (sum binary64 s a t b c)) → NotNegative (sum binary64 s a t b c)
unfolding sum
sum-not-negative false false a b c C A B F = rounded false (a + b) c C unmarked F
sum-not-negative true true a b c C A B F = rounded true (a + b) c C (λ q. let z = A q in let w = B q in omega arith) F
sum-not-negative true false a b c C A B F = go (ltb a b) F
  where
    go : (r : Bool) → T (finite (cond r (round binary64 false (b - a) c) (round binary64 (ltb b a) (a - b) c)))
        → NotNegative (cond r (round binary64 false (b - a) c) (round binary64 (ltb b a) (a - b) c))
    go true F = rounded false (b - a) c C unmarked F
    go false F = rounded (ltb b a) (a - b) c C (λ q. let z = A refl in omega arith) F
sum-not-negative false true a b c C A B F = go (ltb a b) F
  where
    go : (r : Bool) → T (finite (cond r (round binary64 true (b - a) c) (round binary64 false (a - b) c)))
        → NotNegative (cond r (round binary64 true (b - a) c) (round binary64 false (a - b) c))
    go true F = rounded true (b - a) c C (λ q. let z = B refl in omega arith) F
    go false F = rounded false (a - b) c C unmarked F

add_is : (s : Bool) (m : ℕ) (e : ℤ) (t : Bool) (n : ℕ) (d : ℤ)
    → add binary64 (fin s m e) (fin t n d) ≡ sum binary64 s (m * up e * down d) t (n * up d * down e) (down e * down d)
unfolding add
add_is s m e t n d = refl

sub_is : (s : Bool) (m : ℕ) (e : ℤ) (t : Bool) (n : ℕ) (d : ℤ)
    → sub binary64 (fin s m e) (fin t n d) ≡ sum binary64 s (m * up e * down d) (not t) (n * up d * down e) (down e * down d)
unfolding sub
sub_is s m e t n d = refl

-- a sum is not negative
pub add-not-negative : (x y : Float) → NotNegative x → NotNegative y → T (finite (add binary64 x y)) → NotNegative (add binary64 x y)
add-not-negative nan y X Y F = absurd X.number
add-not-negative (inf s) y X Y F = absurd X.number
add-not-negative (fin s m e) nan X Y F = absurd Y.number
add-not-negative (fin s m e) (inf t) X Y F = absurd Y.number
add-not-negative (fin s m e) (fin t n d) X Y F = rw (add_is s m e t n d) (sum-not-negative s t (m * up e * down d) (n * up d * down e) (down e * down d)
    (mul-pos (down_pos e) (down_pos d)) (λ q. none-times (m * up e) (down d) (signed-zero s m e X q)) (λ q. none-times (n * up d) (down e) (signed-zero t n d Y q))
    (rw (add_is s m e t n d) at F))

-- nor is a difference from which no more is taken than there is
pub sub-not-negative : (x y : Float) → NotNegative x → NotNegative y → T (le y x) → T (finite (sub binary64 x y)) → NotNegative (sub binary64 x y)
sub-not-negative nan y X Y h F = absurd X.number
sub-not-negative (inf s) y X Y h F = absurd X.number
sub-not-negative (fin s m e) nan X Y h F = absurd Y.number
sub-not-negative (fin s m e) (inf t) X Y h F = absurd Y.number
sub-not-negative (fin false m e) (fin false n d) X Y h F =
    unsigned-not-negative (sub binary64 (fin false m e) (fin false n d)) (sub-unsigned (fin false m e) (fin false n d) tt tt h F)
sub-not-negative (fin true m e) (fin false n d) X Y h F =
    let z = none-times (m * up e) (down d) (signed-zero true m e X refl) in
    let k = size-le false true n m d e Y.positive h in
    rw (sub_is true m e false n d) (sum-not-negative true true (m * up e * down d) (n * up d * down e) (down e * down d)
    (mul-pos (down_pos e) (down_pos d)) (λ q. z) (λ q. omega (arith, k, z)) (rw (sub_is true m e false n d) at F))
sub-not-negative (fin s m e) (fin true n d) X Y h F = rw (sub_is s m e true n d) (sum-not-negative s false (m * up e * down d) (n * up d * down e) (down e * down d)
    (mul-pos (down_pos e) (down_pos d)) (λ q. none-times (m * up e) (down d) (signed-zero s m e X q)) unmarked (rw (sub_is s m e true n d) at F))

-- ---- products and quotients

mul_is : (s : Bool) (m : ℕ) (e : ℤ) (k : ℕ) (c : ℤ) → mul binary64 (fin s m e) (fin false k c) ≡ round binary64 s (m * up e * (k * up c)) (down e * down c)
unfolding mul
mul_is true m e k c = refl
mul_is false m e k c = refl

div_is : (s : Bool) (m : ℕ) (e : ℤ) (n : ℕ) (d : ℤ) → 0 < n → div binary64 (fin s m e) (fin false n d) ≡ round binary64 s (m * up e * down d) (n * up d * down e)
unfolding div
div_is true m e n d N = rw (ne_eqb n 0 (λ z. omega arith))
div_is false m e n d N = rw (ne_eqb n 0 (λ z. omega arith))

-- a product with a factor that has no minus sign is not negative
pub mul-not-negative : (x f : Float) → NotNegative x → T (unsigned f) → T (finite (mul binary64 x f)) → NotNegative (mul binary64 x f)
mul-not-negative nan f X U F = absurd X.number
mul-not-negative (inf s) f X U F = absurd X.number
mul-not-negative (fin s m e) nan X U F = absurd U
mul-not-negative (fin s m e) (inf t) X U F = absurd U
mul-not-negative (fin s m e) (fin true k c) X U F = absurd U
mul-not-negative (fin s m e) (fin false k c) X U F = rw (mul_is s m e k c) (rounded s (m * up e * (k * up c)) (down e * down c) (mul-pos (down_pos e) (down_pos c))
    (λ q. none-times (m * up e) (k * up c) (signed-zero s m e X q)) (rw (mul_is s m e k c) at F))

-- nor is a quotient by a float above zero
pub div-not-negative : (x y : Float) → NotNegative x → T (unsigned y) → T (lt Real.zero y) → T (finite (div binary64 x y)) → NotNegative (div binary64 x y)
div-not-negative nan y X U h F = absurd X.number
div-not-negative (inf s) y X U h F = absurd X.number
div-not-negative (fin s m e) nan X U h F = absurd U
div-not-negative (fin s m e) (inf t) X U h F = absurd U
div-not-negative (fin s m e) (fin true n d) X U h F = absurd U
div-not-negative (fin s m e) (fin false n d) X U h F =
    let o : 0 < n * up d = over_zero (fin false n d) tt h in
    let i = div_is s m e n d (first_pos n (up d) o) in
    rw i (rounded s (m * up e * down d) (n * up d * down e) (mul-pos o (down_pos e)) (λ q. none-times (m * up e) (down d) (signed-zero s m e X q)) (rw i at F))

-- products with a factor are in the order of what is multiplied
pub times-le : (x y f : Float) → NotNegative x → NotNegative y → T (le x y) → T (unsigned f) → T (finite (mul binary64 y f))
    → T (le (mul binary64 x f) (mul binary64 y f))
times-le nan y f X Y h U F = absurd X.number
times-le (inf s) y f X Y h U F = absurd X.number
times-le (fin s m e) nan f X Y h U F = absurd Y.number
times-le (fin s m e) (inf t) f X Y h U F = absurd Y.number
times-le (fin s m e) (fin t n d) nan X Y h U F = absurd U
times-le (fin s m e) (fin t n d) (inf w) X Y h U F = absurd U
times-le (fin s m e) (fin t n d) (fin true k c) X Y h U F = absurd U
times-le (fin s m e) (fin t n d) (fin false k c) X Y h U F = rw (mul_is s m e k c, mul_is t n d k c)
    (round-le s t (m * up e * (k * up c)) (down e * down c) (n * up d * (k * up c)) (down d * down c) (mul-pos (down_pos e) (down_pos c)) (mul-pos (down_pos d) (down_pos c))
    (λ q. none-times (m * up e) (k * up c) (signed-zero s m e X q)) (λ q. none-times (n * up d) (k * up c) (signed-zero t n d Y q))
    (cross (m * up e) (down e) (n * up d) (down d) (k * up c) (down c) (size-le s t m n e d X.positive h)) (rw (mul_is t n d k c) at F))

-- ---- a sign that takes no part

-- x without its minus sign
abbrev pub magnitude : Float → Float
magnitude nan = nan
magnitude (inf s) = inf false
magnitude (fin s m e) = fin false m e

-- that of a finite float is unsigned
pub magnitude-unsigned : (x : Float) → T (finite x) → T (unsigned (magnitude x))
magnitude-unsigned nan X = absurd X
magnitude-unsigned (inf s) X = absurd X
magnitude-unsigned (fin s m e) X = tt

-- magnitudes are in the order of the floats
pub magnitude-le : (x y : Float) → NotNegative x → NotNegative y → T (le x y) → T (le (magnitude x) (magnitude y))
magnitude-le nan y X Y h = absurd X.number
magnitude-le (inf s) y X Y h = absurd X.number
magnitude-le (fin s m e) nan X Y h = absurd Y.number
magnitude-le (fin s m e) (inf t) X Y h = absurd Y.number
magnitude-le (fin s m e) (fin t n d) X Y h = let g = size-le s t m n e d X.positive h in most→le (fin false m e) (fin false n d) tt tt (omega (arith, g))

taken_none : (a b c : ℕ) → b ≡ 0 → sum binary64 false a true b c ≡ sum binary64 false a false b c
unfolding sum
taken_none a b c z = rw (z, le-ltb a 0 (omega arith)) (let q : a - 0 ≡ a + 0 = omega arith in rw q)

-- what is added to a float without a minus sign is added as its magnitude
pub add-magnitude : (x y : Float) → T (unsigned x) → NotNegative y → add binary64 x y ≡ add binary64 x (magnitude y)
add-magnitude nan y X Y = absurd X
add-magnitude (inf s) y X Y = absurd X
add-magnitude (fin true m e) y X Y = absurd X
add-magnitude (fin false m e) nan X Y = absurd Y.number
add-magnitude (fin false m e) (inf t) X Y = absurd Y.number
add-magnitude (fin false m e) (fin false n d) X Y = refl
add-magnitude (fin false m e) (fin true n d) X Y =
    let z = none-times (n * up d) (down e) (signed-zero true n d Y refl) in
    add_is false m e true n d ∙ taken_none (m * up e * down d) (n * up d * down e) (down e * down d) z ∙ sym (add_is false m e false n d)

-- ---- what is finite was made of what is finite

-- the second part of a sum is finite
pub add-finite-right : (x y : Float) → T (finite x) → T (finite (add binary64 x y)) → T (finite y)
unfolding add
add-finite-right nan y X F = absurd X
add-finite-right (inf s) y X F = absurd X
add-finite-right (fin s m e) nan X F = absurd F
add-finite-right (fin s m e) (inf t) X F = absurd F
add-finite-right (fin s m e) (fin t n d) X F = tt

-- the second factor of a product is
pub mul-finite-right : (x y : Float) → T (finite x) → T (finite (mul binary64 x y)) → T (finite y)
unfolding mul
mul-finite-right nan y X F = absurd X
mul-finite-right (inf s) y X F = absurd X
mul-finite-right (fin s m e) nan X F = absurd F
mul-finite-right (fin s m e) (inf t) X F = absurd (no-product (eqb m 0) (unlike s t) F)
mul-finite-right (fin s m e) (fin t n d) X F = tt

-- and what is divided is
pub div-finite-left : (x y : Float) → T (finite y) → T (finite (div binary64 x y)) → T (finite x)
unfolding div
div-finite-left x nan Y F = absurd Y
div-finite-left x (inf t) Y F = absurd Y
div-finite-left nan (fin t n d) Y F = absurd F
div-finite-left (inf s) (fin t n d) Y F = absurd F
div-finite-left (fin s m e) (fin t n d) Y F = tt
