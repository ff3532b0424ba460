-- `copying::copy_accepted` meets its contract. Assumes nothing.
use borrow.Author.Rules.{rules}
use Rattle.copying.proofs.TreeLaws.{handed-copy}
use Rattle.copying.proofs.copy_accepted.Goals as goal

pub returns : goal.returns
returns c = search (handed-copy, rules)
