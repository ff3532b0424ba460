-- `dating::set_heights` meets its contract. Assumes nothing.
use mathlib.Core.Path.{◌≡◌}
use mathlib.Core.List.{[]}
use lib.ListN.{length}
use Rattle.tree.specs.Given.{kin_in}
use Rattle.dating.specs.Initialize.{initial_to}
use Rattle.dating.specs.Given.{start_with}
use Rattle.dating.proofs.set_heights.Given as goal

abbrev pub invariant-loop-k : goal.invariant-loop-k
invariant-loop-k l = l.heights ≡ initial_to (start_with (length l.initial.heights) l.minima l.maxima l.old l.factor) (kin_in [] l.initial.heights) l.k
