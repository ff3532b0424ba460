-- `heights::root_scale_unvalidated` meets its contract. Assumes nothing.
use borrow.Author.Rules.{rules}
use Rattle.calls.proofs.EntryLaws.{unvalidated_laws}
use Rattle.heights.proofs.root_scale_unvalidated.Goals as goal

pub returns-in-Err : goal.returns-in-Err
returns-in-Err c = search (unvalidated_laws, rules)

pub returns : goal.returns
returns c = search (unvalidated_laws, rules)
