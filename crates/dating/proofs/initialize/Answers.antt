-- `dating::initialize` meets its contract. Assumes nothing.
use borrow.Author.Rules.{rules}
use Rattle.dating.specs.Initialize.{initialize_call}
use Rattle.dating.proofs.StartLaws.{initialize_laws, initialize-done}
use Rattle.dating.proofs.initialize.Goals as goal

pub returns-in_err-check : goal.returns-in_err-check
unfolding initialize_call
returns-in_err-check c = search (initialize_laws, rules)

pub returns : goal.returns
returns c = initialize-done _ _ _ _ _ _ _ _ c.is_start-limits.ensures _ c.check.ensures c.in_ok-check.was _ _ c.start.ensures
