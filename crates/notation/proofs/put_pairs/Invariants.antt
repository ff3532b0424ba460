-- `notation::put_pairs` meets its contract. Assumes nothing.
use Rattle.std.proofs.Common.{◌≡◌, ◌-◌, ◌/◌, length}
use Rattle.print.specs.Writing.{written, write}
use Rattle.notation.specs.Notation.{pair_lines, pairs_text}
use Rattle.notation.proofs.put_pairs.Given as goal

abbrev pub invariant-loop-k : goal.invariant-loop-k
invariant-loop-k l = (l.n ≡ length l.pairs / 2) × (length l.out ≡ length l.initial.out) × (write (written l.out l.place) (pair_lines (l.n - l.k) l.k l.pairs) ≡ write (written l.initial.out l.at) (pairs_text l.pairs))
