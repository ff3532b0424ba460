-- `notation::put_ratio` meets its contract. Assumes nothing.
use Rattle.std.proofs.Common.{rules}
use Rattle.notation.proofs.PutLaws.{ratio_laws}
use Rattle.notation.proofs.put_ratio.Goals as goal

pub returns-in-Counts : goal.returns-in-Counts
returns-in-Counts c = search (ratio_laws, rules)

pub returns-in-Lengths : goal.returns-in-Lengths
returns-in-Lengths c = search (ratio_laws, rules)

pub returns-in-Power : goal.returns-in-Power
returns-in-Power c = search (ratio_laws, rules)
