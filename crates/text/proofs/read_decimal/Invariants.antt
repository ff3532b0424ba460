-- `text::read_decimal` meets its contract. Assumes nothing.
use Rattle.std.proofs.Common.{drop}
use Rattle.text.specs.Rules.{decimal}
use Rattle.text.proofs.ReadLaws.{Counting}
use Rattle.text.proofs.read_decimal.Given as goal

abbrev pub invariant-loop-i : goal.invariant-loop-i
invariant-loop-i l = Counting l.limit l.s l.i l.n (decimal l.limit (drop l.at l.s))
