-- `dating::propose_age` meets its contract. Assumes nothing.
use borrow.Author.Rules.{rules}
use Rattle.dating.proofs.TipAgeLaws.{propose_laws}
use Rattle.dating.proofs.propose_age.Goals as goal

pub returns-in-Err : goal.returns-in-Err
returns-in-Err c = search (propose_laws, rules)

pub returns : goal.returns
returns c = search (propose_laws, rules)
