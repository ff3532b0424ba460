-- `quick::are_families` meets its contract. Assumes nothing.
use Rattle.std.proofs.Common.{◌≡◌, true, length}
use Rattle.tree.specs.Bounded.{every}
use Rattle.quick.specs.Quick.{family_at}
use Rattle.quick.proofs.are_families.Given as goal

abbrev pub invariant-loop-j : goal.invariant-loop-j
invariant-loop-j l = every (family_at (length l.heights) l.pairs l.parents l.heights) l.j ≡ true
