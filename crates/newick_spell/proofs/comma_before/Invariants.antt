-- `newick_spell::comma_before` meets its contract. Assumes nothing.
use mathlib.Core.Path.{◌≡◌}
use Prim.Native.Nat.{◌≤◌, ◌+◌}
use lib.ListN.{length}
use Rattle.newick_spell.specs.Stands.{back, comma_under, comma_before}
use Rattle.newick_spell.proofs.comma_before.Given as goal

abbrev pub invariant-loop-i : goal.invariant-loop-i
invariant-loop-i l = (l.inner + l.i ≤ l.at) × (l.i ≤ length l.text) × (comma_under l.inner (back l.i l.text) ≡ comma_before l.text l.at)

abbrev pub decreases-loop-i : goal.decreases-loop-i
decreases-loop-i l = l.i
