-- `heights::scale_heights` meets its contract. Assumes nothing.
use borrow.Author.Rules.{rules}
use Rattle.heights.proofs.TreeScaleLaws.{scale_laws}
use Rattle.heights.proofs.scale_heights.Goals as goal

pub returns : goal.returns
returns c = search (scale_laws, rules)
