-- Newick texts, by change request S-1: the value that a text stands for, its text, and its spelling, as a reader that goes from byte to byte.
-- Definitions only. Assumes nothing.
use Rattle.std.specs.Prelude.{Bool, true, false, List, [], ◌∷◌, ◌++◌, ℕ, suc, ◌+◌, ◌-◌, ◌*◌, ◌/◌, ◌%◌, eqb, get_or}
use Prim.Native.String.{String}
use Rattle.text.specs.Text.{bytes, decimal_in}
use Rattle.text.specs.Rules.{is_decimal}

-- ---- the value

-- "tips named by number, internal nodes unnamed": a tip, or two subtrees "in stored child order", each with the length of the branch above it in thousandths
pub data Newick : Type 0 where
  tip : ℕ → Newick
  join : Newick → ℕ → Newick → ℕ → Newick

-- ---- its text

-- the byte of a sign
abbrev pub sign : String → ℕ
sign s = get_or (bytes s) 0 0

-- a number of any size in decimal: n has at most n + 1 digits
unfoldable pub number_text : ℕ → List ℕ
number_text n = decimal_in (suc n) n

-- "in thousandths with three decimals"; 48 is the digit 0
abbrev pub length_text : ℕ → List ℕ
length_text x = number_text (x / 1000) ++ (sign "." ∷ (48 + x / 100 % 10) ∷ (48 + x / 10 % 10) ∷ (48 + x % 10) ∷ [])

unfoldable pub text : Newick → List ℕ
text (tip k) = number_text k
text (join a x b y) = sign "(" ∷ text a ++ (sign ":" ∷ length_text x ++ (sign "," ∷ text b ++ (sign ":" ∷ length_text y ++ (sign ")" ∷ []))))

-- "a closing semicolon"; "the root has none", that is no length
unfoldable pub whole_text : Newick → List ℕ
whole_text t = text t ++ (sign ";" ∷ [])

-- ---- its spelling

-- what was read inside an open parenthesis: nothing, or its first subtree with the length
pub data Frame : Type 0 where
  first : Frame
  second : Newick → ℕ → Frame

-- where the reader stands, with what it has read there
pub data Mode : Type 0 where
  start : Mode  -- before the first byte
  sub : Mode  -- where a subtree begins
  name : ℕ → Mode  -- in a tip's number
  made : Newick → Mode  -- behind a closing parenthesis
  colon : Newick → Mode  -- behind a subtree's colon
  whole : Newick → ℕ → Mode  -- in the whole part of a length
  point : Newick → ℕ → Mode  -- behind its point
  tenths : Newick → ℕ → Mode  -- behind its first decimal
  hundredths : Newick → ℕ → Mode  -- behind its second
  branch : Newick → ℕ → Mode  -- behind a length
  done : Newick → Mode  -- behind the semicolon

-- where a byte leads it, with what is open there, the innermost first; or that the spelling forbids the byte
pub data Step : Type 0 where
  stuck : Step
  to : Mode → List Frame → Step

abbrev pub on : Bool → Mode → List Frame → Step
on true m fs = to m fs
on false m fs = stuck

abbrev pub or_else : Bool → Step → Step → Step
or_else true a b = a
or_else false a b = b

-- a digit, by its value
abbrev pub on_digit : ℕ → (ℕ → Mode) → List Frame → Step
on_digit b f fs = on (is_decimal b) (f (b - 48)) fs

-- a further digit of a number: "without leading zeros", none comes behind 0
abbrev pub on_more : ℕ → ℕ → (ℕ → Mode) → List Frame → Step
on_more v b f fs = or_else (eqb v 0) stuck (on_digit b (λ d. f (v * 10 + d)) fs)

-- one byte; "a parenthesis first, whole parts without leading zeros"
unfoldable pub step : Mode → List Frame → ℕ → Step
step start fs b = on (eqb b (sign "(")) sub (first ∷ fs)
step sub fs b = or_else (eqb b (sign "(")) (to sub (first ∷ fs)) (on_digit b name fs)
step (name k) fs b = or_else (eqb b (sign ":")) (to (colon (tip k)) fs) (on_more k b name fs)
step (made t) [] b = on (eqb b (sign ";")) (done t) []
step (made t) (f ∷ fs) b = on (eqb b (sign ":")) (colon t) (f ∷ fs)
step (colon t) fs b = on_digit b (whole t) fs
step (whole t w) fs b = or_else (eqb b (sign ".")) (to (point t w) fs) (on_more w b (whole t) fs)
step (point t w) fs b = on_digit b (λ d. tenths t (w * 10 + d)) fs
step (tenths t w) fs b = on_digit b (λ d. hundredths t (w * 10 + d)) fs
step (hundredths t w) fs b = on_digit b (λ d. branch t (w * 10 + d)) fs
step (branch t x) [] b = stuck
step (branch t x) (first ∷ fs) b = on (eqb b (sign ",")) sub (second t x ∷ fs)
step (branch t x) (second a y ∷ fs) b = on (eqb b (sign ")")) (made (join a y t x)) fs
step (done t) fs b = stuck

-- a text: what is left of it from the first forbidden byte on, or where its end leaves the reader
pub data Run : Type 0 where
  forbidden : List ℕ → Run
  reached : Mode → List Frame → Run

unfoldable pub run : Mode → List Frame → List ℕ → Run
run m fs [] = reached m fs
run m fs (b ∷ s) = elim (step m fs b) [ stuck ↦ forbidden (b ∷ s) | to m' fs' ↦ run m' fs' s ]
