-- `print::put_word_near_end` meets its contract. Assumes nothing.
use Rattle.std.proofs.Common.{rules}
use Rattle.print.proofs.PutLaws.{word_laws}
use Rattle.print.proofs.put_word_near_end.Goals as goal

pub returns : goal.returns
returns c = search (word_laws, rules)
