-- `speciation::internal_total` meets its contract. Assumes nothing.
use Rattle.std.specs.Prelude.{[]}
use mathlib.Core.Path.{◌≡◌}
use Prim.Native.Nat.{◌+◌, ◌-◌, ◌≤◌}
use lib.ListN.{length}
use Rattle.tree.specs.Given.{kin_in}
use Rattle.speciation.specs.Yule.{total_to}
use Rattle.speciation.proofs.internal_total.Given as goal

abbrev pub invariant-loop-k : goal.invariant-loop-k
invariant-loop-k l = (l.k ≤ length l.heights + (1 - length l.heights)) × (l.sum ≡ total_to (length l.heights) (kin_in [] l.heights) l.k)
