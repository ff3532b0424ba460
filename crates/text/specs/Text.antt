-- Texts, as lists of bytes: a quoted text, and numbers written in decimal and in hexadecimal. Definitions only. Assumes nothing.
use Rattle.std.specs.Prelude.{cond, List, [], ◌∷◌, ◌++◌, ℕ, zero, suc, ◌+◌, ◌/◌, ◌%◌, ◌^◌, ltb}
use Prim.Native.String.{String, [] as []ᵗ, ◌∷◌ as ◌∷ᵗ◌}
use Prim.Native.Char.{code}

-- the bytes of a quoted text, which is ASCII
abbrev pub bytes : String → List ℕ
bytes []ᵗ = []
bytes (c ∷ᵗ s) = code c ∷ bytes s

-- "each ended by byte 10"
abbrev pub line_end : List ℕ
line_end = bytes "\n"

-- the byte of a digit: 0 to 9, then a to f
unfoldable pub digit : ℕ → ℕ
digit d = cond (ltb d 10) (48 + d) (87 + d)

-- the k lowest "lower-case hexadecimal digits" of a number, the highest first
unfoldable pub hex_text : ℕ → ℕ → List ℕ
hex_text zero w = []
hex_text (suc k) w = digit (w / 16 ^ k % 16) ∷ hex_text k w

-- "State words and f64 bits are 16 lower-case hexadecimal digits"
abbrev pub word_text : ℕ → List ℕ
word_text w = hex_text 16 w

-- "decimal without leading zeros", of a number of at most k digits
unfoldable pub decimal_in : ℕ → ℕ → List ℕ
decimal_in zero n = []
decimal_in (suc k) n = cond (ltb n 10) [] (decimal_in k (n / 10)) ++ (digit (n % 10) ∷ [])

-- a 64-bit number has at most 20 digits
abbrev pub decimal_text : ℕ → List ℕ
decimal_text n = decimal_in 20 n
