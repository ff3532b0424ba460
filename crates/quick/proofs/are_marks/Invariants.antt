-- `quick::are_marks` meets its contract. Assumes nothing.
use Rattle.std.proofs.Common.{◌≡◌}
use Rattle.tree.specs.Bounded.{every}
use Rattle.quick.specs.Quick.{is_mark}
use Rattle.quick.proofs.are_marks.Given as goal

abbrev pub invariant-loop-mark : goal.invariant-loop-mark
invariant-loop-mark l = l.all ≡ every (is_mark l.pairs) l.mark-index
