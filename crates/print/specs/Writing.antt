-- Texts written into a slice, from a place of it on, as far as there is room. Definitions only. Assumes nothing.
use Rattle.std.specs.Prelude.{cond, List, [], ◌∷◌, ℕ, ◌+◌, ltb, length, set}

-- a slice, and the place where the next byte goes
pub record Written : Type 0 where
  pub bytes : List ℕ
  pub at : ℕ

abbrev pub written : List ℕ → ℕ → Written
written bytes at = record { bytes = bytes; at = at }

-- one byte; where the slice has no such place, nothing is written
unfoldable pub write_byte : Written → ℕ → Written
write_byte w b = cond (ltb w.at (length w.bytes)) (written (set w.bytes w.at b) (w.at + 1)) w

-- a text, byte after byte
unfoldable pub write : Written → List ℕ → Written
write w [] = w
write w (b ∷ t) = write (write_byte w b) t
