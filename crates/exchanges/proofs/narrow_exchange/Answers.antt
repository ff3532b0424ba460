-- `exchanges::narrow_exchange` meets its contract. Assumes nothing.
use borrow.Author.Rules.{rules}
use Rattle.calls.proofs.EntryLaws.{entry_laws}
use Rattle.exchanges.proofs.narrow_exchange.Goals as goal

pub returns-in-Err : goal.returns-in-Err
returns-in-Err c = search (entry_laws, rules)

pub returns : goal.returns
returns c = search (entry_laws, rules)
