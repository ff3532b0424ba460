-- `notation::ratio_len` meets its contract. Assumes nothing.
use Rattle.std.proofs.Common.{rules}
use Rattle.notation.proofs.CountLaws.{len_laws}
use Rattle.notation.proofs.ratio_len.Goals as goal

pub returns-in-Power : goal.returns-in-Power
returns-in-Power c = search (len_laws, rules)
