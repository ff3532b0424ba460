-- `heights::scale_heights` meets its contract. Assumes nothing.
use mathlib.Core.Path.{◌≡◌}
use Prim.Native.Nat.{◌+◌, ◌-◌, ◌≤◌}
use lib.ListN.{length}
use Rattle.rules.specs.Rules.{scaled_to}
use Rattle.heights.specs.Given.{heights_of}
use Rattle.heights.proofs.scale_heights.Given as goal

abbrev pub invariant-loop-k : goal.invariant-loop-k
invariant-loop-k l = (l.k ≤ length l.initial.heights + (1 - length l.initial.heights)) × (l.heights ≡ (scaled_to (length l.initial.heights) (heights_of l.initial.heights) l.f l.k).heights)
