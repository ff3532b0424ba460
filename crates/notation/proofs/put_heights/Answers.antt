-- `notation::put_heights` meets its contract. Assumes nothing.
use Rattle.std.proofs.Common.{rules}
use Rattle.notation.proofs.PutLaws.{heights_laws}
use Rattle.notation.proofs.put_heights.Goals as goal

pub loop-x-preserved : goal.loop-x-preserved
loop-x-preserved c = search (heights_laws, rules)

pub returns : goal.returns
returns c = search (heights_laws, rules)
