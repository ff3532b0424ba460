-- `edits::set_height` meets its contract: setting past the end changes nothing. Assumes nothing.
use borrow.Author.Rules.{rules}
use lib.Seq.{set_out}
use Rattle.edits.proofs.set_height.Goals as goal

pub returns-else-node-heights : goal.returns-else-node-heights
returns-else-node-heights c = search (set_out, rules)
