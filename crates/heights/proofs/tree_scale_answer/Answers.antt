-- `heights::tree_scale_answer` meets its contract. Assumes nothing.
use borrow.Author.Rules.{rules}
use Rattle.heights.proofs.TreeScaleLaws.{scale_answer_laws}
use Rattle.heights.proofs.tree_scale_answer.Goals as goal

pub returns-in-Err : goal.returns-in-Err
returns-in-Err c = search (scale_answer_laws, rules)

pub returns : goal.returns
returns c = search (scale_answer_laws, rules)
