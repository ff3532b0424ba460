-- `notation::put_pairs` meets its contract. Assumes nothing.
use Rattle.std.proofs.Common.{rules}
use Rattle.notation.proofs.PutLaws.{pairs_laws}
use Rattle.notation.proofs.put_pairs.Goals as goal

pub loop-k-preserved : goal.loop-k-preserved
loop-k-preserved c = search (pairs_laws, rules)

pub returns : goal.returns
returns c = search (pairs_laws, rules)
