-- `print::count_digits` meets its contract. Assumes nothing.
use Rattle.std.proofs.Common.{rules}
use Rattle.print.proofs.PutLaws.{count_laws}
use Rattle.print.proofs.count_digits.Goals as goal

pub overflow_add-count : goal.overflow_add-count
overflow_add-count c = search (count_laws, rules)

pub loop-rest-preserved : goal.loop-rest-preserved
loop-rest-preserved c = search (count_laws, rules)
