-- `report::put_refused` meets its contract. Assumes nothing.
use Rattle.std.proofs.Common.{rules}
use Rattle.report.proofs.PutLaws.{part_laws}
use Rattle.report.proofs.put_refused.Goals as goal

pub returns : goal.returns
returns c = search (part_laws, rules)
