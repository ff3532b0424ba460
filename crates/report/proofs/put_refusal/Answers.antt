-- `report::put_refusal` meets its contract. Assumes nothing.
use Rattle.std.proofs.Common.{rules}
use Rattle.report.proofs.PutLaws.{deliver_laws}
use Rattle.report.proofs.put_refusal.Goals as goal

pub returns : goal.returns
returns c = search (deliver_laws, rules)

pub returns-then-out-refused_len : goal.returns-then-out-refused_len
returns-then-out-refused_len c = search (deliver_laws, rules)
