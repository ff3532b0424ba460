-- `heights::lowest_overflow` meets its contract. Assumes nothing.
use mathlib.Core.Path.{◌≡◌}
use Prim.Native.Nat.{◌+◌, ◌-◌, ◌≤◌}
use lib.ListN.{length}
use Rattle.calls.specs.Draws.{least}
use Rattle.moves.specs.Programs.{overflows}
use Rattle.heights.specs.Given.{heights_of}
use Rattle.heights.proofs.lowest_overflow.Given as goal

abbrev pub invariant-loop-k : goal.invariant-loop-k
invariant-loop-k l = (l.k ≤ length l.heights + (1 - length l.heights)) × (least (overflows (length l.heights) (heights_of l.heights) l.f) l.k ≡ l.k)
