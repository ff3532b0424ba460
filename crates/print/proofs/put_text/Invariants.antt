-- `print::put_text` meets its contract. Assumes nothing.
use Rattle.std.proofs.Common.{◌≡◌, length, drop}
use Rattle.print.specs.Writing.{written, write}
use Rattle.print.proofs.put_text.Given as goal

abbrev pub invariant-loop-b : goal.invariant-loop-b
invariant-loop-b l = (length l.out ≡ length l.initial.out) × (write (written l.out l.place) (drop l.b-index l.text) ≡ write (written l.initial.out l.at) l.text)
