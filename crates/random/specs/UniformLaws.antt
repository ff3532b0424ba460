-- A uniform is exact: its value is the draw's top 53 bits over 2 ^ 53 (`uniform-exact`), and it is below 1 (`unit-lt-one`).
-- It is the Rust's quotient by 2 ^ 53 (`quotient-uniform`) and the code's product with 2 ^ -53 (`product-uniform`), which have the same bits for every
-- numerator (`same_bits`). Assumes nothing.
use Rattle.std.specs.Prelude.{◌≡◌, ℕ, ◌*◌, ◌/◌, ◌^◌, ◌<◌, true, false, pos, to_bits, refl, Float}
use Rattle.std.proofs.Common.{sym, ap, ◌∙◌, true≢false, mod-lt, mul_comm, mul_assoc, mul-pos, le_of_lt, lt_of_lt_of_le, mul-lt-mul_of_pos_right, arith, lit<, lit≤, lt-ltb, shr_lt, shl_lt}
use Rattle.std.specs.Float.{nan, inf, fin, binary64}
use Rattle.std.specs.Float.Ieee.{up, down, unlike, round, mul, div, lt, of_int, of_bits}
use Rattle.std.specs.Float.Ieee.Exact.{HasValue, round_exact}
use Rattle.std.specs.Float.Ieee.Back.{round_whole}
use Rattle.std.specs.Float.Ieee.Fits.{down_pos}
use Rattle.std.specs.Float.Ieee.Scale.{round_same}
use Rattle.random.specs.Xoshiro.{output}
use Rattle.random.specs.Generator.{word_of, uniform_of}
use Rattle.random.specs.declared.Random.{Random}

-- a draw is a 64-bit word
pub word_lt : (g : Random) → word_of g < 2 ^ 64
unfolding word_of output
word_lt g = mod-lt _ (lit< tt)

-- its top 53 bits
pub top_lt : (w : ℕ) → w < 2 ^ 64 → w / 2 ^ 11 < 2 ^ 53
top_lt w h = shr_lt 53 11 h

-- x is exactly a numerator below 2 ^ 53 over 2 ^ 53
pub record UnitFraction (x : Float) : Type 0 where
  pub numerator : ℕ
  pub small : numerator < 2 ^ 53
  pub exact : HasValue x false numerator (2 ^ 53)

-- the value of a draw's uniform is the draw's top 53 bits over 2 ^ 53
pub uniform-exact : (w : ℕ) → w < 2 ^ 64 → HasValue (uniform_of w) false (w / 2 ^ 11) (2 ^ 53)
unfolding uniform_of
uniform-exact w h =
    let m = w / 2 ^ 11 in
    round_exact binary64 false m (2 ^ 53) m 1021 (lit< tt) (top_lt w h) (lt_of_lt_of_le (shl_lt 53 1021 (top_lt w h)) (lit≤ tt)) (sym (mul_assoc m (2 ^ 1021) (2 ^ 53)))

-- a fraction m / 2 ^ 53 below 1 is below 1 as a float
fraction-lt-one : (x : Float) (m : ℕ) → m < 2 ^ 53 → HasValue x false m (2 ^ 53) → lt x (fin false 1 (pos 0)) ≡ true
unfolding lt
fraction-lt-one nan m h v = absurd v
fraction-lt-one (inf s) m h v = absurd v
fraction-lt-one (fin true k e) m h v = absurd (true≢false v.0)
fraction-lt-one (fin false k e) m h v =
    let p : m * down e < 2 ^ 53 * down e = mul-lt-mul_of_pos_right h (down_pos e) in
    lt-ltb (k * up e * 1) (1 * down e) (omega (arith, v.1))

pub unit-lt-one : (x : Float) → UnitFraction x → lt x (fin false 1 (pos 0)) ≡ true
unit-lt-one x u = fraction-lt-one x u.numerator u.small u.exact

pub uniform-unit : (w : ℕ) → w < 2 ^ 64 → UnitFraction (uniform_of w)
uniform-unit w h = record { numerator = w / 2 ^ 11; small = top_lt w h; exact = uniform-exact w h }

-- ---- by a product, and by the Rust's quotient

-- 2 ^ -53, and 2 ^ 53 as the Rust has it, `(1u64 << 53) as f64`
abbrev pub two_to_minus53 : Float
two_to_minus53 = of_bits binary64 0x3ca0_0000_0000_0000

abbrev pub two_to53 : Float
two_to53 = of_int binary64 (pos (2 ^ 53))

-- a numerator as a float, times 2 ^ -53 or over 2 ^ 53
abbrev pub product : ℕ → Float
product n = mul binary64 (of_int binary64 (pos n)) two_to_minus53

abbrev pub quotient : ℕ → Float
quotient n = div binary64 (of_int binary64 (pos n)) two_to53

-- at every float, infinities and NaN too, the product with 2 ^ -53 is the quotient by 2 ^ 53
pub product-quotient : (x : Float) → mul binary64 x two_to_minus53 ≡ div binary64 x two_to53
unfolding mul div of_bits of_int
product-quotient nan = refl
product-quotient (inf s) = refl
product-quotient (fin s m e) = ap (λ (d : ℕ). round binary64 (unlike s false) (m * up e * 1) d) (mul_comm (down e) (2 ^ 53))

-- request S-3, "show the bits to be the division's for all 2^53 numerators": so they are for every whole number
pub same_bits : (n : ℕ) → to_bits binary64 (product n) ≡ to_bits binary64 (quotient n)
same_bits n = ap (to_bits binary64) (product-quotient (of_int binary64 (pos n)))

-- a numerator as a float is the numerator itself
pub numerator-exact : (n : ℕ) → n < 2 ^ 53 → HasValue (of_int binary64 (pos n)) false n 1
unfolding of_int
numerator-exact n h = round_whole binary64 false n (le_of_lt h)

-- a whole number over 2 ^ 53
whole-over : (x : Float) (n : ℕ) → HasValue x false n 1 → div binary64 x two_to53 ≡ round binary64 false n (2 ^ 53)
unfolding div of_int
whole-over nan n v = absurd v
whole-over (inf s) n v = absurd v
whole-over (fin true m e) n v = absurd (true≢false v.0)
whole-over (fin false m e) n v =
    round_same binary64 false (m * up e * 1) (2 ^ 53 * down e) n (2 ^ 53) (mul-pos (lit< tt) (down_pos e)) (lit< tt)
    (ap (λ (z : ℕ). z * 2 ^ 53) v.1 ∙ mul_assoc n (down e) (2 ^ 53) ∙ ap (λ (z : ℕ). n * z) (mul_comm (down e) (2 ^ 53)))

-- the Rust's `(self.next_u64() >> 11) as f64 / (1u64 << 53) as f64` is the draw's uniform
pub quotient-uniform : (w : ℕ) → w < 2 ^ 64 → quotient (w / 2 ^ 11) ≡ uniform_of w
unfolding uniform_of
quotient-uniform w h = whole-over _ (w / 2 ^ 11) (numerator-exact (w / 2 ^ 11) (top_lt w h))

-- and so is the product
pub product-uniform : (w : ℕ) → w < 2 ^ 64 → product (w / 2 ^ 11) ≡ uniform_of w
product-uniform w h = product-quotient _ ∙ quotient-uniform w h
