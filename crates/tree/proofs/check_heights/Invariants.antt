-- `tree::check_heights` meets its contract. Assumes nothing.
use Rattle.std.proofs.Common.{◌≡◌}
use Rattle.answer.specs.declared.Refusal.TheVariants.{Height}
use Rattle.tree.specs.New.{misdated, lowest}
use Rattle.std.specs.Prelude.{Ok}
use Rattle.tree.proofs.check_heights.Given as goal

abbrev pub invariant-loop-node : goal.invariant-loop-node
invariant-loop-node l = lowest (misdated l.tree) Height l.node ≡ Ok tt
