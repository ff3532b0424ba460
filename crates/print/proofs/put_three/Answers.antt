-- `print::put_three` meets its contract. Assumes nothing.
use Rattle.std.proofs.Common.{rules}
use Rattle.print.proofs.PutLaws.{decimal_laws}
use Rattle.print.proofs.put_three.Goals as goal

pub returns : goal.returns
returns c = search (decimal_laws, rules)
