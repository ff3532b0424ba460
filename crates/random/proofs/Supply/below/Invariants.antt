-- `random::Supply::below` meets its contract. Assumes nothing.
use Rattle.std.proofs.Common.{◌≡◌}
use Rattle.random.specs.Draw.{below, pick, supply_of}
use Rattle.random.proofs.Supply.below.Given as goal

abbrev pub invariant-loop-left : goal.invariant-loop-left
invariant-loop-left l = pick (below l.n) l.fn.self ≡ pick (below l.n) (supply_of l.random l.left)
