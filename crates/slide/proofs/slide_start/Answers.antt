-- `slide::slide_start` meets its contract. Assumes nothing.
use borrow.Author.Rules.{rules}
use Rattle.slide.proofs.StartLaws.{start_call_laws}
use Rattle.slide.proofs.slide_start.Goals as goal

pub returns-in-Err : goal.returns-in-Err
returns-in-Err c = search (start_call_laws, rules)

pub returns : goal.returns
returns c = search (start_call_laws, rules)
