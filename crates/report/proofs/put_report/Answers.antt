-- `report::put_report` meets its contract. Assumes nothing.
use Rattle.std.proofs.Common.{rules}
use Rattle.report.proofs.PutLaws.{deliver_laws}
use Rattle.report.proofs.put_report.Goals as goal

pub returns : goal.returns
returns c = search (deliver_laws, rules)

pub returns-then-out-report_len : goal.returns-then-out-report_len
returns-then-out-report_len c = search (deliver_laws, rules)
