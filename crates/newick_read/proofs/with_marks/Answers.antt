-- `newick_read::with_marks` meets its contract. Assumes nothing.
use Rattle.std.proofs.Common.{rules}
use Rattle.newick_read.proofs.CallLaws.{room_laws}
use Rattle.newick_read.proofs.with_marks.Goals as goal

pub returns : goal.returns
returns c = search (room_laws, rules)
