-- `exchanges::apart` meets its contract. Assumes nothing.
use mathlib.Core.Path.{◌≡◌}
use Rattle.random.specs.Draw.{pick}
use Rattle.moves.specs.Programs.{apart}
use Rattle.exchanges.proofs.apart.Given as goal

abbrev pub invariant-loop-k : goal.invariant-loop-k
invariant-loop-k l = pick (apart l.n l.root l.i) l.fn.s ≡ pick (apart l.n l.root l.i) l.s

abbrev pub decreases-loop-k : goal.decreases-loop-k
decreases-loop-k l = l.s.left
