-- Digits and their values: a byte is a decimal digit, a letter up to f, or neither (`kind_of`); a digit has its value, and a byte that has a value is
-- the digit of that. Assumes nothing.
use Rattle.std.specs.Prelude.{◌≡◌, refl, Bool, true, false, ◌&&◌, ℕ, ◌+◌, ◌-◌, ◌≤◌, ◌<◌, leb}
use Rattle.std.proofs.Common.{sym, ◌∙◌, arith, lt-ltb, le-ltb, le-leb, leb-true}
use Rattle.std.proofs.lemmas.Bool.{false≢true, lt-leb}
use Rattle.std.proofs.Math.Decide.{dec_lt}
use Rattle.text.specs.Text.{digit}
use Rattle.text.specs.Rules.{value_of, is_decimal, is_letter}

-- ---- kinds of bytes

pub data Kind (b : ℕ) : Type 0 where
  is_digit : 48 ≤ b → b ≤ 57 → Kind b
  is_high : is_decimal b ≡ false → 97 ≤ b → b ≤ 102 → Kind b
  is_other : is_decimal b ≡ false → is_letter b ≡ false → Kind b

within : (l b u : ℕ) → leb l b && leb b u ≡ true → (l ≤ b) × (b ≤ u)
within l b u h = go (leb l b) refl h
  where
    go : (t : Bool) → leb l b ≡ t → t && leb b u ≡ true → (l ≤ b) × (b ≤ u)
    go true e h = (leb-true l b e, leb-true b u h)
    go false e h = absurd (false≢true h)

pub kind_of : (b : ℕ) → Kind b
kind_of b = go (is_decimal b) refl (is_letter b) refl
  where
    go : (t : Bool) → is_decimal b ≡ t → (u : Bool) → is_letter b ≡ u → Kind b
    go true e u f = let h = within 48 b 57 e in is_digit h.0 h.1
    go false e true f = let h = within 97 b 102 f in is_high e h.0 h.1
    go false e false f = is_other e f

pub decimal-is : (b : ℕ) → 48 ≤ b → b ≤ 57 → is_decimal b ≡ true
decimal-is b l u = rw (le-leb 48 b l, le-leb b 57 u)

pub decimal-within : (b : ℕ) → is_decimal b ≡ true → (48 ≤ b) × (b ≤ 57)
decimal-within b e = go (kind_of b)
  where
    go : Kind b → (48 ≤ b) × (b ≤ 57)
    go (is_digit l u) = (l, u)
    go (is_high d l u) = absurd (false≢true (sym d ∙ e))
    go (is_other d l) = absurd (false≢true (sym d ∙ e))

-- ---- values

pub value-decimal : (b : ℕ) → 48 ≤ b → b ≤ 57 → value_of b ≡ b - 48
unfolding value_of
value-decimal b l u = rw (le-leb 48 b l, le-leb b 57 u)

pub value-letter : (b : ℕ) → 97 ≤ b → b ≤ 102 → value_of b ≡ b - 87
unfolding value_of
value-letter b l u = rw (le-leb 48 b (omega arith), lt-leb b 57 (omega arith), le-leb 97 b l, le-leb b 102 u)

pub value-other : (b : ℕ) → is_decimal b ≡ false → is_letter b ≡ false → value_of b ≡ 16
unfolding value_of
value-other b d l = rw (d, l)

pub value-le : (b : ℕ) → value_of b ≤ 16
value-le b = go (kind_of b)
  where
    go : Kind b → value_of b ≤ 16
    go (is_digit l u) = rw (value-decimal b l u) (omega arith)
    go (is_high d l u) = rw (value-letter b l u) (omega arith)
    go (is_other d l) = rw (value-other b d l) (omega arith)

-- ---- digits

pub digit_low : (d : ℕ) → d < 10 → digit d ≡ 48 + d
unfolding digit
digit_low d h = rw (lt-ltb d 10 h)

pub digit-high : (d : ℕ) → 10 ≤ d → digit d ≡ 87 + d
unfolding digit
digit-high d h = rw (le-ltb d 10 h)

pub value-digit : (d : ℕ) → d < 16 → value_of (digit d) ≡ d
value-digit d h = elim (dec_lt d 10) [
  | yes l ↦ rw (digit_low d l, value-decimal (48 + d) (omega arith) (omega arith)) (omega arith)
  | no l ↦ rw (digit-high d (omega arith), value-letter (87 + d) (omega arith) (omega arith)) (omega arith)
]

pub digit_value : (b : ℕ) → value_of b < 16 → digit (value_of b) ≡ b
digit_value b h = go (kind_of b)
  where
    go : Kind b → digit (value_of b) ≡ b
    go (is_digit l u) = rw (value-decimal b l u, digit_low (b - 48) (omega arith)) (omega arith)
    go (is_high d l u) = rw (value-letter b l u, digit-high (b - 87) (omega arith)) (omega arith)
    go (is_other d l) = let e = value-other b d l in absurd (omega arith)
