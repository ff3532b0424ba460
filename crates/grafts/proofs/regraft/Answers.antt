-- `grafts::regraft` meets its contract. Assumes nothing.
use borrow.Author.Rules.{rules}
use Rattle.grafts.proofs.RegraftLaws.{regrafted}
use Rattle.grafts.proofs.regraft.Goals as goal

pub returns : goal.returns
returns c = λ v. search (regrafted, rules)
