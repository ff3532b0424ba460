-- `heights::root_scale` meets its contract. Assumes nothing.
use borrow.Author.Rules.{rules}
use Rattle.calls.proofs.EntryLaws.{entry_laws}
use Rattle.heights.proofs.root_scale.Goals as goal

pub returns-in-Err : goal.returns-in-Err
returns-in-Err c = search (entry_laws, rules)

pub returns : goal.returns
returns c = search (entry_laws, rules)
