-- `exchanges::narrow_exchange_unvalidated` meets its contract. Assumes nothing.
use borrow.Author.Rules.{rules}
use Rattle.calls.proofs.EntryLaws.{unvalidated_laws}
use Rattle.exchanges.proofs.narrow_exchange_unvalidated.Goals as goal

pub returns-in-Err : goal.returns-in-Err
returns-in-Err c = search (unvalidated_laws, rules)

pub returns : goal.returns
returns c = search (unvalidated_laws, rules)
