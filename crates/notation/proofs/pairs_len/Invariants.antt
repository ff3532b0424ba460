-- `notation::pairs_len` meets its contract. Assumes nothing.
use Rattle.notation.proofs.CountLaws.{Summed}
use Rattle.notation.proofs.pairs_len.Given as goal

abbrev pub invariant-loop-k : goal.invariant-loop-k
invariant-loop-k l = Summed l.pairs l.n l.k l.sum
