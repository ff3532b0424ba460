-- `dating::lowest_overflow` meets its contract. Assumes nothing.
use borrow.Author.Rules.{rules}
use Rattle.dating.proofs.InitializeLaws.{lowest_laws}
use Rattle.dating.proofs.lowest_overflow.Goals as goal

pub returns-then-not-is_finite : goal.returns-then-not-is_finite
returns-then-not-is_finite c = search (lowest_laws, rules)
