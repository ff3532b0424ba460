-- `branches::crossing` meets its contract. Assumes nothing.
use borrow.Author.Rules.{rules}
use Rattle.branches.proofs.CrossingLaws.{crossing_laws}
use Rattle.branches.proofs.+crossing.Goals as goal

pub returns-then-height-x : goal.returns-then-height-x
returns-then-height-x t c = search (crossing_laws, rules)

pub returns-then-is_inner : goal.returns-then-is_inner
returns-then-is_inner t c = search (crossing_laws, rules)

pub returns : goal.returns
returns t c = search (crossing_laws, rules)
