-- `statefile::read_heights` meets its contract. Assumes nothing.
use Rattle.statefile.proofs.FillLaws.{HeightsFilling}
use Rattle.statefile.proofs.read_heights.Given as goal

abbrev pub invariant-loop-k : goal.invariant-loop-k
invariant-loop-k l = HeightsFilling l.count l.line l.at l.s l.initial.out l.k l.j l.out
