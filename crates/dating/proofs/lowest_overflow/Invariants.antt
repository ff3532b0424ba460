-- `dating::lowest_overflow` meets its contract. Assumes nothing.
use mathlib.Core.Path.{◌≡◌}
use mathlib.Core.List.{[]}
use lib.ListN.{length}
use Rattle.tree.specs.Given.{kin_in}
use Rattle.calls.specs.Draws.{least}
use Rattle.dating.specs.Initialize.{overflows_at}
use Rattle.dating.specs.Given.{start_with}
use Rattle.dating.proofs.lowest_overflow.Given as goal

abbrev pub invariant-loop-k : goal.invariant-loop-k
invariant-loop-k l = least (overflows_at (start_with (length l.heights) l.minima l.maxima l.old l.factor) (kin_in [] l.heights)) l.k ≡ l.k
