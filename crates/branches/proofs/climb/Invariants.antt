-- `branches::climb` meets its contract. Assumes nothing.
use mathlib.Core.Path.{◌≡◌}
use Prim.Native.Nat.{◌-◌}
use Rattle.tree.specs.Given.{dates_in}
use Rattle.rules.specs.Rules.{climb}
use Rattle.branches.proofs.climb.Given as goal

abbrev pub invariant-loop : goal.invariant-loop
invariant-loop l = climb l.n (dates_in l.parents l.heights l.root) l.x l.k ≡ climb (l.n - l.counter) (dates_in l.parents l.heights l.root) l.x l.at
