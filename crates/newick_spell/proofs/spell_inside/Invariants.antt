-- `newick_spell::spell_inside` meets its contract. Assumes nothing.
use mathlib.Core.Path.{◌≡◌}
use Prim.Native.Nat.{◌-◌}
use lib.ListN.{length}
use Rattle.newick_spell.specs.Spots.{Sub}
use Rattle.newick_spell.specs.Stands.{Stands}
use Rattle.newick_spell.proofs.spell_inside.Given as goal

abbrev pub invariant-loop-sides : goal.invariant-loop-sides
invariant-loop-sides l = (length l.sides ≡ length l.initial.sides) × Stands l.text l.q.at Sub l.q.depth l.q.side l.sides

abbrev pub decreases-loop-sides : goal.decreases-loop-sides
decreases-loop-sides l = length l.text - l.q.at
