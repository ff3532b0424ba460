-- `random::Supply::below_other` meets its contract. Assumes nothing.
use Rattle.std.proofs.Common.{◌≡◌}
use Rattle.random.specs.Draw.{below_other, pick, supply_of}
use Rattle.random.proofs.Supply.below_other.Given as goal

abbrev pub invariant-loop-left : goal.invariant-loop-left
invariant-loop-left l = pick (below_other l.n l.base l.other) l.fn.self ≡ pick (below_other l.n l.base l.other) (supply_of l.random l.left)
