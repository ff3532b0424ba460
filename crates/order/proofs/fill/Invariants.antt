-- `order::fill` meets its contract. Assumes nothing.
use lib.ListN.{length}
use Rattle.order.specs.Filling.{Filling}
use Rattle.order.proofs.fill.Given as goal

abbrev pub invariant-loop-count : goal.invariant-loop-count
invariant-loop-count l = Filling l.pairs l.root (length l.initial.order) l.count l.at l.order

abbrev pub decreases-loop-count : goal.decreases-loop-count
decreases-loop-count l = l.at
