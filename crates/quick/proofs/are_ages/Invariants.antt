-- `quick::are_ages` meets its contract. Assumes nothing.
use Rattle.std.proofs.Common.{◌≡◌}
use Rattle.tree.specs.Bounded.{every}
use Rattle.quick.specs.Quick.{is_age}
use Rattle.quick.proofs.are_ages.Given as goal

abbrev pub invariant-loop-age : goal.invariant-loop-age
invariant-loop-age l = l.all ≡ every (is_age l.heights) l.age-index
