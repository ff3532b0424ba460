-- `newick_write::print_ages` meets its contract. Assumes nothing.
use Rattle.std.proofs.Common.{◌≡◌, length}
use Rattle.newick_write.specs.Given.{Printing}
use Rattle.newick_write.proofs.print_ages.Given as goal

abbrev pub invariant-loop-k : goal.invariant-loop-k
invariant-loop-k l = (length l.ages ≡ length l.initial.ages) × Printing l.heights l.ages l.k
