-- Rules of a grammar. A rule takes a text, and gives the value that stands at its start with the rest of the text, or finds that the text does not
-- start as the rule says. Definitions only. Assumes nothing.
use Rattle.std.specs.Prelude.{Bool, false, cond, ◌&&◌, List, [], ◌∷◌, ℕ, zero, suc, ◌+◌, ◌*◌, ◌-◌, leb, ltb, eqb}

-- ---- rules

pub data Parsed (A : Type 0) : Type 0 where
  malformed : Parsed A
  parsed : A → List ℕ → Parsed A

abbrev pub Rule : Type 0 → Type 0
Rule A = List ℕ → Parsed A

-- nothing is read
unfoldable pub return : {A : Type 0} → A → Rule A
return a s = parsed a s

-- what a rule has read, and then the rule that its value chooses
unfoldable pub onward : {A B : Type 0} → Parsed A → (A → Rule B) → Parsed B
onward malformed f = malformed
onward (parsed a rest) f = f a rest

infixl 20 ◌>>=◌
unfoldable pub ◌>>=◌ : {A B : Type 0} → Rule A → (A → Rule B) → Rule B
(rule >>= f) s = onward (rule s) f

-- ---- a fixed text

unfoldable pub literal : List ℕ → Rule Unit
literal [] s = parsed tt s
literal (k ∷ ks) [] = malformed
literal (k ∷ ks) (b ∷ s) = cond (eqb b k) (literal ks s) malformed

-- a fixed text that stands for a value
unfoldable pub fixed : {A : Type 0} → List ℕ → A → Rule A
fixed text a = do
  _ ← literal text
  return a

-- ---- digits

-- "0" to "9", by value
abbrev pub is_decimal : ℕ → Bool
is_decimal b = leb 48 b && leb b 57

abbrev pub is_letter : ℕ → Bool
is_letter b = leb 97 b && leb b 102

-- the value of a digit up to f, or 16 for any other byte
unfoldable pub value_of : ℕ → ℕ
value_of b = cond (is_decimal b) (b - 48) (cond (is_letter b) (b - 87) 16)

-- ---- numbers

-- so many "lower-case hexadecimal digits", after a number
unfoldable pub hex_after : ℕ → ℕ → Rule ℕ
hex_after zero n s = parsed n s
hex_after (suc k) n [] = malformed
hex_after (suc k) n (b ∷ s) = cond (ltb (value_of b) 16) (hex_after k (n * 16 + value_of b) s) malformed

-- "16 lower-case hexadecimal digits"
abbrev pub word : Rule ℕ
word s = hex_after 16 0 s

-- as many decimal digits as there are, after a number; none above the limit
unfoldable pub decimal_after : ℕ → ℕ → Rule ℕ
decimal_after limit n [] = parsed n []
decimal_after limit n (b ∷ s) =
    cond (is_decimal b) (cond (leb (n * 10 + value_of b) limit) (decimal_after limit (n * 10 + value_of b) s) malformed) (parsed n (b ∷ s))

-- "decimal without leading zeros", up to a limit: 0 alone, or digits of which the first is not 0
unfoldable pub decimal : ℕ → Rule ℕ
decimal limit [] = malformed
decimal limit (b ∷ s) = cond (eqb b 48) (parsed 0 s) (cond (is_decimal b) (decimal_after limit 0 (b ∷ s)) malformed)

-- whether a text starts with a decimal digit, which a number before it would take in
abbrev pub starts_decimal : List ℕ → Bool
starts_decimal [] = false
starts_decimal (b ∷ s) = is_decimal b
