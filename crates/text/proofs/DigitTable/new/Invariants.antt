-- The table of digits holds their values. Assumes nothing.
use Rattle.text.proofs.ReadLaws.{Filled}
use Rattle.text.proofs.DigitTable.new.Given as goal

abbrev pub invariant-loop-d : goal.invariant-loop-d
invariant-loop-d l = Filled l.d l.values
