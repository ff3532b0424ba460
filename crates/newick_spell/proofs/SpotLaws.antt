-- Where a byte leads: that it leads a reader with values to the same spot (`erased`), and what the end of a text tells of one there (`at_end`). Assumes
-- nothing.
use mathlib.Core.Path.{◌≡◌, refl, sym, ap, ◌∙◌}
use mathlib.Core.Bool.{Bool, true, false, cond, false≢true}
use mathlib.Core.List.{List, [], ◌∷◌}
use Prim.Native.Nat.{ℕ, ◌+◌, ◌-◌, ◌*◌}
use native.Mathlib.Omega.{arith}
use native.Mathlib.Decide.{ℕ_discrete}
use lib.Dec.{eqb}
use borrow.Author.Tests.{eq-eqb, ne_eqb}
use Rattle.text.specs.Rules.{is_decimal}
use Rattle.text.specs.DigitLaws.{decimal-within, decimal-is}
use Rattle.newick.specs.Newick.{tip, join, Frame, first, second, Mode, start, sub, name, made, colon, whole, point, tenths, hundredths, branch, done}
use Rattle.newick.specs.Newick.{Step, stuck, to, on, or_else, on_more, step, reached}
use Rattle.newick.specs.Newick as Newick
use Rattle.newick.specs.PlaceLaws.{Fine}
use Rattle.newick_spell.specs.Spelling.{spelling_in}
use Rattle.newick_spell.specs.Spots.{Spot, Sub, Zero, Name, Colon, Nought, Whole, Point, Led, To, Stuck, only, on_digit, next_spot, spot_of, led_by, end_of}
use Rattle.newick_spell.specs.Stands.{is_second}
use Rattle.std.specs.Prelude.{Err}
use Rattle.newick_spell.specs.declared.Misspelling.TheVariants as Misspellings

-- ---- a reader with values

led_on : (t : Bool) (m : Mode) (fs : List Frame) → led_by (on t m fs) ≡ only t (spot_of m)
led_on true m fs = refl
led_on false m fs = refl

led-or : (t : Bool) (p q : Step) → led_by (or_else t p q) ≡ cond t (led_by p) (led_by q)
led-or true p q = refl
led-or false p q = refl

-- the first digit of a number: 0, or another
first-digit : (b : ℕ) (z n : Spot) → only (is_decimal b) (cond (eqb (b - 48) 0) z n) ≡ cond (eqb b 48) (To z) (on_digit b n)
first-digit b z n = go (ℕ_discrete b 48) (is_decimal b) refl
  where
    go : Dec (b ≡ 48) → (t : Bool) → is_decimal b ≡ t → only t (cond (eqb (b - 48) 0) z n) ≡ cond (eqb b 48) (To z) (only t n)
    go (yes h) true e = rw (eq-eqb (b - 48) 0 (omega arith), eq-eqb b 48 h)
    go (yes h) false e = absurd (false≢true (sym e ∙ decimal-is b (omega arith) (omega arith)))
    go (no h) true e = let l = (decimal-within b e).0 in rw (ne_eqb (b - 48) 0 (λ q. h (omega arith)), ne_eqb b 48 h)
    go (no h) false e = rw (ne_eqb b 48 h)

-- a digit or a sign behind a number that may be 0
more-digit : (b v : ℕ) (x : Led) (z n : Spot) (t : Bool)
    → cond t x (cond (eqb v 0) Stuck (only (is_decimal b) (cond (eqb (v * 10 + (b - 48)) 0) z n)))
    ≡ cond (eqb v 0) (cond t x Stuck) (cond t x (on_digit b n))
more-digit b v x z n t = go (ℕ_discrete v 0) t
  where
    go : Dec (v ≡ 0) → (t : Bool)
        → cond t x (cond (eqb v 0) Stuck (only (is_decimal b) (cond (eqb (v * 10 + (b - 48)) 0) z n)))
        ≡ cond (eqb v 0) (cond t x Stuck) (cond t x (on_digit b n))
    go (yes h) true = rw (eq-eqb v 0 h)
    go (yes h) false = rw (eq-eqb v 0 h)
    go (no h) true = rw (ne_eqb v 0 h)
    go (no h) false = rw (ne_eqb v 0 h, ne_eqb (v * 10 + (b - 48)) 0 (λ q. h (omega arith)))

-- a spot by whether its number is 0
by_number : (t : Bool) (z n : Spot) (side over : Bool) (b : ℕ)
    → next_spot (cond t z n) side over b ≡ cond t (next_spot z side over b) (next_spot n side over b)
by_number true z n side over b = refl
by_number false z n side over b = refl

-- no parenthesis is open
abbrev pub is_over : List Frame → Bool
is_over [] = true
is_over (f ∷ fs) = false

pub erased : (m : Mode) (fs : List Frame) (b : ℕ) → Fine m fs → led_by (step m fs b) ≡ next_spot (spot_of m) (is_second fs) (is_over fs) b
unfolding step next_spot
erased start fs b h = led_on (eqb b 40) sub (first ∷ fs)
erased sub fs b h =
    led-or (eqb b 40) (to sub (first ∷ fs)) (Newick.on_digit b name fs)
    ∙ ap (cond (eqb b 40) (To Sub)) (led_on (is_decimal b) (name (b - 48)) fs ∙ first-digit b Zero Name)
erased (name k) fs b h =
    led-or (eqb b 58) (to (colon (tip k)) fs) (on_more k b name fs)
    ∙ ap (cond (eqb b 58) (To Colon)) (led-or (eqb k 0) stuck (Newick.on_digit b (λ d. name (k * 10 + d)) fs)
    ∙ ap (cond (eqb k 0) Stuck) (led_on (is_decimal b) (name (k * 10 + (b - 48))) fs))
    ∙ more-digit b k (To Colon) Zero Name (eqb b 58)
    ∙ sym (by_number (eqb k 0) Zero Name (is_second fs) (is_over fs) b)
erased (made t) [] b h = led_on (eqb b 59) (done t) []
erased (made t) (f ∷ fs) b h = led_on (eqb b 58) (colon t) (f ∷ fs)
erased (colon t) fs b h = led_on (is_decimal b) (whole t (b - 48)) fs ∙ first-digit b Nought Whole
erased (whole t w) fs b h =
    led-or (eqb b 46) (to (point t w) fs) (on_more w b (whole t) fs)
    ∙ ap (cond (eqb b 46) (To Point)) (led-or (eqb w 0) stuck (Newick.on_digit b (λ d. whole t (w * 10 + d)) fs)
    ∙ ap (cond (eqb w 0) Stuck) (led_on (is_decimal b) (whole t (w * 10 + (b - 48))) fs))
    ∙ more-digit b w (To Point) Nought Whole (eqb b 46)
    ∙ sym (by_number (eqb w 0) Nought Whole (is_second fs) (is_over fs) b)
erased (point t w) fs b h = led_on (is_decimal b) (tenths t (w * 10 + (b - 48))) fs
erased (tenths t w) fs b h = led_on (is_decimal b) (hundredths t (w * 10 + (b - 48))) fs
erased (hundredths t w) fs b h = led_on (is_decimal b) (branch t (w * 10 + (b - 48))) fs
erased (branch t x) [] b h = absurd h
erased (branch t x) (first ∷ fs) b h = led_on (eqb b 44) sub (second t x ∷ fs)
erased (branch t x) (second a y ∷ fs) b h = led_on (eqb b 41) (made (join a y t x)) fs
erased (done t) fs b h = refl

pub at_end : (m : Mode) (fs : List Frame) (long : ℕ) → spelling_in long (reached m fs) ≡ end_of (spot_of m)
at_end start fs long = refl
at_end sub fs long = refl
at_end (name k) fs long = go (eqb k 0)
  where
    go : (t : Bool) → (Err Misspellings.Unfinished) ≡ end_of (cond t Zero Name)
    go true = refl
    go false = refl
at_end (made t) fs long = refl
at_end (colon t) fs long = refl
at_end (whole t w) fs long = go (eqb w 0)
  where
    go : (t : Bool) → (Err Misspellings.Unfinished) ≡ end_of (cond t Nought Whole)
    go true = refl
    go false = refl
at_end (point t w) fs long = refl
at_end (tenths t w) fs long = refl
at_end (hundredths t w) fs long = refl
at_end (branch t x) fs long = refl
at_end (done t) fs long = refl
