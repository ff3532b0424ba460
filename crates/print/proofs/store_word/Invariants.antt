-- `print::store_word` meets its contract. Assumes nothing.
use Rattle.std.proofs.Common.{◌≡◌, ◌+◌, ◌-◌, length}
use Rattle.text.specs.Text.{hex_text}
use Rattle.print.specs.Writing.{written, write}
use Rattle.print.proofs.store_word.Given as goal

abbrev pub invariant-loop-k : goal.invariant-loop-k
invariant-loop-k l = (length l.out ≡ length l.initial.out) × (write (written l.out (l.at + l.k)) (hex_text (16 - l.k) l.w) ≡ write (written l.initial.out l.at) (hex_text 16 l.w))
