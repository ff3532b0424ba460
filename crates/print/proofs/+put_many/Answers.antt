-- `print::put_many` meets its contract. Assumes nothing.
use Rattle.std.proofs.Common.{rules}
use Rattle.print.proofs.PutLaws.{decimal_laws}
use Rattle.print.proofs.+put_many.Goals as goal

pub returns : goal.returns
returns t c = search (decimal_laws, rules)
