-- How two values and how a line are written part after part (`write-comma`, `write-line`), and by code that writes the parts (`comma-put`, `line-put`);
-- the next of the pairs that are left (`next-pair`). Assumes nothing.
use Rattle.std.specs.Prelude.{◌≡◌, List, ◌++◌, ℕ, suc, ◌+◌, ◌-◌, ◌<◌, get_or}
use Rattle.std.proofs.Common.{sym, ap, ◌∙◌, add-one, arith}
use Rattle.text.specs.Text.{bytes, line_end}
use Rattle.print.specs.Writing.{Written, write_byte, write}
use Rattle.print.specs.WritingLaws.{write-append}
use Rattle.tree.specs.PlaceLaws.{next_place}
use Rattle.notation.specs.Notation.{line, comma, pair_line, pair_lines}

pub write-comma : (w : Written) (x y : List ℕ) → write w (comma x y) ≡ write (write_byte (write w x) 44) y
unfolding comma write
write-comma w x y = sym (write-append w (x ++ bytes ",") y) ∙ ap (λ (v : Written). write v y) (sym (write-append w x (bytes ",")))

pub write-line : (w : Written) (key value : List ℕ) → write w (line key value) ≡ write_byte (write (write w key) value) 10
unfolding line write
write-line w key value = sym (write-append w (key ++ value) line_end) ∙ ap (λ (v : Written). write v line_end) (sym (write-append w key value))

-- w is what was written before, v what is written in the end
module _ (w a b v : Written) where
  pub comma-put : (x y : List ℕ) → a ≡ write w x → b ≡ write_byte a 44 → v ≡ write b y → v ≡ write w (comma x y)
  comma-put x y ea eb ev = rw (write-comma w x y, ← ea, ← eb) ev

  pub line-put : (key value : List ℕ) → a ≡ write w key → b ≡ write a value → v ≡ write_byte b 10 → v ≡ write w (line key value)
  line-put key value ea eb ev = rw (write-line w key value, ← ea, ← eb) ev

-- ---- the pairs

-- those of the nodes from k on: the first of them, and the others
pub next-pair : (n k : ℕ) (pairs : List ℕ) → k < n
    → pair_lines (n - k) k pairs ≡ pair_line (get_or pairs (k + k) 0) (get_or pairs (k + k + 1) 0) ++ pair_lines (n - (k + 1)) (k + 1) pairs
unfolding pair_lines
next-pair n k pairs h =
    let e : n - k ≡ suc (n - (k + 1)) = omega arith in
    rw (e, next_place pairs k, add-one k)
