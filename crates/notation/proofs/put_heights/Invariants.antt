-- `notation::put_heights` meets its contract. Assumes nothing.
use Rattle.std.proofs.Common.{◌≡◌, length, drop}
use Rattle.print.specs.Writing.{written, write}
use Rattle.notation.specs.Notation.{heights_text}
use Rattle.notation.proofs.put_heights.Given as goal

abbrev pub invariant-loop-x : goal.invariant-loop-x
invariant-loop-x l = (length l.out ≡ length l.initial.out) × (write (written l.out l.place) (heights_text (drop l.x-index l.heights)) ≡ write (written l.initial.out l.at) (heights_text l.heights))
