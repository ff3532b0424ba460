-- `print::store_word` meets its contract. Assumes nothing.
use Rattle.std.proofs.Common.{rules}
use Rattle.print.proofs.PutLaws.{word_laws}
use Rattle.print.proofs.store_word.Goals as goal

pub loop-k-preserved : goal.loop-k-preserved
loop-k-preserved c = search (word_laws, rules)
