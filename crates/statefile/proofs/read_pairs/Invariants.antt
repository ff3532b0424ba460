-- `statefile::read_pairs` meets its contract. Assumes nothing.
use Rattle.statefile.proofs.FillLaws.{PairsFilling}
use Rattle.statefile.proofs.read_pairs.Given as goal

abbrev pub invariant-loop-k : goal.invariant-loop-k
invariant-loop-k l = PairsFilling l.count l.line l.at l.s l.from l.initial.out l.k l.j l.out
