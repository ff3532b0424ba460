-- What the readers' answers say: an answer with a place of the text says what is left of the text, as a rule does. Definitions only. Assumes
-- nothing.
use Rattle.std.specs.Prelude.{◌≡◌, List, ℕ, ◌<◌, length, get_or, drop, Option, Some, None}
use Rattle.text.specs.Rules.{Parsed, malformed, parsed, value_of}

-- ---- answers, in the text s

abbrev pub placed : List ℕ → Option ℕ → Parsed Unit
placed s (Some i) = parsed tt (drop i s)
placed s None = malformed

abbrev pub numbered : List ℕ → Option (ℕ × ℕ) → Parsed ℕ
numbered s (Some (n, i)) = parsed n (drop i s)
numbered s None = malformed

-- ---- what is asked

-- for each byte the value of that digit
pub record DigitValues (l : List ℕ) : Type 0 where
  pub long : length l ≡ 256
  pub right : (b : ℕ) → b < 256 → get_or l b 0 ≡ value_of b
