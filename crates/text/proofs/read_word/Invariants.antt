-- `text::read_word` meets its contract. Assumes nothing.
use Rattle.std.proofs.Common.{drop}
use Rattle.text.proofs.ReadLaws.{Hexing}
use Rattle.text.proofs.read_word.Given as goal

abbrev pub invariant-loop-b : goal.invariant-loop-b
invariant-loop-b l = Hexing (drop l.at l.s) l.b-items l.b-index l.n
