-- `print::count_digits` meets its contract. Assumes nothing.
use Rattle.print.proofs.PutLaws.{Counting}
use Rattle.print.proofs.count_digits.Given as goal

abbrev pub invariant-loop-rest : goal.invariant-loop-rest
invariant-loop-rest l = Counting l.n l.rest l.count

abbrev pub decreases-loop-rest : goal.decreases-loop-rest
decreases-loop-rest l = l.rest
