-- `rove_unvalidated::rove_tree_scale_unvalidated` meets its contract. Assumes nothing.
use Rattle.std.proofs.Common.{rules}
use Rattle.rove_unvalidated.proofs.UnvalidatedLaws.{move_laws}
use Rattle.rove_unvalidated.proofs.rove_tree_scale_unvalidated.Goals as goal

pub returns-then-not-is_ready : goal.returns-then-not-is_ready
returns-then-not-is_ready c = search (move_laws, rules)

pub returns : goal.returns
returns c = search (move_laws, rules)
