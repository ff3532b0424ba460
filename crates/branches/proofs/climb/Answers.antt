-- `branches::climb` meets its contract. Assumes nothing.
use borrow.Author.Rules.{rules}
use Rattle.branches.proofs.ClimbLaws.{climb_laws}
use Rattle.branches.proofs.climb.Goals as goal

pub returns-else-height-x : goal.returns-else-height-x
returns-else-height-x c = search (climb_laws, rules)

pub loop-preserved : goal.loop-preserved
loop-preserved c = search (climb_laws, rules)
