-- Texts read line by line, the lines counted. A reader takes the number of the next line with the text from there on, and gives a value with the
-- same of what is left, or the number of the first line that is not of its form. Definitions only. Assumes nothing.
use Rattle.std.specs.Prelude.{List, [], ◌∷◌, ℕ, zero, suc}
use Rattle.text.specs.Rules.{Rule, Parsed, malformed, parsed}

pub data Found (A : Type 0) : Type 0 where
  wrong : ℕ → Found A
  found : A → ℕ → List ℕ → Found A

abbrev pub Reader : Type 0 → Type 0
Reader A = ℕ → List ℕ → Found A

-- nothing is read
unfoldable pub return : {A : Type 0} → A → Reader A
return a k s = found a k s

-- what was read, and then the reader that its value chooses
unfoldable pub onward : {A B : Type 0} → Found A → (A → Reader B) → Found B
onward (wrong k) f = wrong k
onward (found a k s) f = f a k s

infixl 20 ◌>>=◌
unfoldable pub ◌>>=◌ : {A B : Type 0} → Reader A → (A → Reader B) → Reader B
(reader >>= f) k s = onward (reader k s) f

-- a line counts where it is of its form
abbrev pub counted : {A : Type 0} → ℕ → Parsed A → Found A
counted k malformed = wrong k
counted k (parsed a rest) = found a (suc k) rest

unfoldable pub line : {A : Type 0} → Rule A → Reader A
line rule k s = counted k (rule s)

-- so many lines of one form
unfoldable pub each : {A : Type 0} → ℕ → Rule A → Reader (List A)
each zero rule = return []
each (suc n) rule = do
  a ← line rule
  l ← each n rule
  return (a ∷ l)

-- nothing is left: a byte would be of a line too many
unfoldable pub end : Reader Unit
end k [] = found tt k []
end k (b ∷ s) = wrong k
