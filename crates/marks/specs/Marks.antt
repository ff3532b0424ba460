-- Bytes as marks. Definitions only. Assumes nothing.
use Rattle.std.specs.Prelude.{Bool, not, List, map, ℕ, eqb}

-- a byte that is not 0
abbrev pub is_mark : ℕ → Bool
is_mark b = not (eqb b 0)

-- one mark for each byte
unfoldable pub marks_of : List ℕ → List Bool
marks_of bytes = map is_mark bytes
