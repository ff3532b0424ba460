-- Laws of writing. In order: one byte, inside the slice and past its end (`byte_inside`, `byte_past`); a text after a text is the two as one
-- (`write-append`, `write_then`, `byte-then`); the slice keeps its length (`write-length`); a text that fits stands at its place, the rest being as it was (`write-fits`, and at the slice's start `write-whole`). Assumes nothing.
use Rattle.std.specs.Prelude.{◌≡◌, refl, Bool, true, false, cond, List, [], ◌∷◌, ◌++◌, ℕ, suc, ◌+◌, ◌≤◌, ◌<◌, ltb, length, take, drop, set}
use Rattle.std.proofs.Common.{sym, ap, ◌∙◌, add-zero, add-one, arith, length-set, lt-ltb, le-ltb}
use Rattle.std.proofs.lemmas.List.Edits.{sets, sets-eq}
use Rattle.print.specs.Writing.{Written, written, write_byte, write}

-- ---- one byte

pub byte_inside : (d : List ℕ) (at b : ℕ) → at < length d → written (set d at b) (at + 1) ≡ write_byte (written d at) b
unfolding write_byte
byte_inside d at b h = rw (lt-ltb _ _ h)

pub byte_past : (d : List ℕ) (at b : ℕ) → length d ≤ at → written d at ≡ write_byte (written d at) b
unfolding write_byte
byte_past d at b h = rw (le-ltb _ _ h)

byte-length : (w : Written) (b : ℕ) → length (write_byte w b).bytes ≡ length w.bytes
unfolding write_byte
byte-length w b = go (ltb w.at (length w.bytes))
  where
    go : (t : Bool) → length (cond t (written (set w.bytes w.at b) (w.at + 1)) w).bytes ≡ length w.bytes
    go true = length-set w.bytes w.at b
    go false = refl

-- ---- a text

pub write-append : (w : Written) (t u : List ℕ) → write (write w t) u ≡ write w (t ++ u)
unfolding write
write-append w [] u = refl
write-append w (b ∷ t) u = write-append (write_byte w b) t u

-- what is written after a text
pub write_then : (w a v : Written) (t u : List ℕ) → a ≡ write w t → v ≡ write a u → v ≡ write w (t ++ u)
write_then w a v t u ea ev = rw (← write-append w t u, ← ea) ev

pub byte-then : (w a v : Written) (t : List ℕ) (b : ℕ) → a ≡ write w t → v ≡ write_byte a b → v ≡ write w (t ++ (b ∷ []))
unfolding write
byte-then w a v t b ea ev = write_then w a v t (b ∷ []) ea ev

pub write-length : (w : Written) (t : List ℕ) → length (write w t).bytes ≡ length w.bytes
unfolding write
write-length w [] = refl
write-length w (b ∷ t) = write-length (write_byte w b) t ∙ byte-length w b

-- where there is room each byte is stored
write-sets : (d : List ℕ) (at : ℕ) (t : List ℕ) → at + length t ≤ length d → write (written d at) t ≡ written (sets d at t) (at + length t)
unfolding write
write-sets d at [] h = ap (written d) (sym (add-zero at))
write-sets d at (b ∷ t) h =
    let e : suc at + length t ≡ at + suc (length t) = omega arith in
    rw (← byte_inside d at b (omega arith), add-one at, write-sets (set d at b) (suc at) t (simp length-set (omega arith)), e)

pub write-fits : (d : List ℕ) (at : ℕ) (t : List ℕ) → at + length t ≤ length d
    → write (written d at) t ≡ written (take at d ++ t ++ drop (at + length t) d) (at + length t)
write-fits d at t h = rw (write-sets d at t h, sets-eq t d at h)

-- from the start of a slice
pub write-whole : (d t o : List ℕ) (r : ℕ) → length t ≤ length d → written o r ≡ write (written d 0) t → written o r ≡ written (t ++ drop (length t) d) (length t)
write-whole d t o r h e = let z : 0 + length t ≡ length t = omega arith in e ∙ rw (← z) (write-fits d 0 t (omega arith))
