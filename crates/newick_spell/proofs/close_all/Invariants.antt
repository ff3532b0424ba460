-- `newick_spell::close_all` meets its contract. Assumes nothing.
use Prim.Native.Nat.{◌-◌, ◌≤◌}
use lib.ListN.{length}
use Rattle.newick_spell.specs.Spots.{Branch}
use Rattle.newick_spell.specs.Stands.{Stands}
use Rattle.newick_spell.proofs.close_all.Given as goal

abbrev pub invariant-loop-q : goal.invariant-loop-q
invariant-loop-q l = (l.initial.q.at ≤ l.q.at) × Stands l.text l.q.at Branch l.q.depth l.q.side l.sides

abbrev pub decreases-loop-q : goal.decreases-loop-q
decreases-loop-q l = length l.text - l.q.at
