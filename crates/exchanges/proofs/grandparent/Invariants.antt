-- `exchanges::grandparent` meets its contract. Assumes nothing.
use mathlib.Core.Path.{◌≡◌}
use Rattle.random.specs.Draw.{pick}
use Rattle.exchanges.specs.Given.{pairs_in}
use Rattle.moves.specs.Programs.{grandparent}
use Rattle.exchanges.proofs.grandparent.Given as goal

abbrev pub invariant-loop-k : goal.invariant-loop-k
invariant-loop-k l = pick (grandparent l.n (pairs_in l.pairs)) l.fn.s ≡ pick (grandparent l.n (pairs_in l.pairs)) l.s

abbrev pub decreases-loop-k : goal.decreases-loop-k
decreases-loop-k l = l.s.left
