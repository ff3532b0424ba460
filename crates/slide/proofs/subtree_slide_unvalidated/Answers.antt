-- `slide::subtree_slide_unvalidated` meets its contract. Assumes nothing.
use borrow.Author.Rules.{rules}
use Rattle.slide.proofs.CallLaws.{call_laws}
use Rattle.slide.proofs.subtree_slide_unvalidated.Goals as goal

pub returns-in-Err : goal.returns-in-Err
returns-in-Err c = search (call_laws, rules)

pub returns-then-pairs-gt-MOST_PLACES : goal.returns-then-pairs-gt-MOST_PLACES
returns-then-pairs-gt-MOST_PLACES c = search (call_laws, rules)

pub returns : goal.returns
returns c = search (call_laws, rules)
