-- `notation::pairs_len` meets its contract. Assumes nothing.
use Rattle.std.proofs.Common.{rules}
use Rattle.notation.proofs.CountLaws.{sum_laws}
use Rattle.notation.proofs.pairs_len.Goals as goal

pub overflow_add-sum : goal.overflow_add-sum
overflow_add-sum c = search (sum_laws, rules)

pub loop-k-preserved : goal.loop-k-preserved
loop-k-preserved c = search (sum_laws, rules)

pub returns : goal.returns
returns c = search (sum_laws, rules)
