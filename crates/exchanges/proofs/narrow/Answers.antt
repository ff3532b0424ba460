-- `exchanges::narrow` meets its contract. Assumes nothing.
use borrow.Author.Rules.{rules}
use Rattle.calls.proofs.HarmlessLaws.{mild_laws}
use Rattle.exchanges.proofs.NarrowLaws.{narrow_laws}
use Rattle.exchanges.proofs.narrow.Goals as goal

pub returns : goal.returns
returns c = record { decided = λ v. search (narrow_laws, rules); mild = search (mild_laws, rules) }
