-- `newick_read::send` meets its contract. Assumes nothing.
use Rattle.std.proofs.Common.{rules}
use Rattle.newick_read.proofs.SliceLaws.{send_laws}
use Rattle.newick_read.proofs.send.Goals as goal

pub returns : goal.returns
returns c = search (send_laws, rules)
