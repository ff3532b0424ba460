-- `slide::slide_up` meets its contract. Assumes nothing.
use borrow.Author.Rules.{rules}
use Rattle.calls.proofs.HarmlessLaws.{mild_laws}
use Rattle.slide.proofs.SlideLaws.{up-stays, up-goes}
use Rattle.slide.proofs.slide_up.Goals as goal

pub returns-then-to-p : goal.returns-then-to-p
returns-then-to-p c = record { decided = λ v. search (up-stays, rules); mild = search (mild_laws, rules) }

pub returns : goal.returns
returns c = record { decided = λ v. search (up-goes, rules); mild = search (mild_laws, rules) }
