-- `real::thousandths` meets its contract: the exponent of an age below 2 ^ 43. Assumes nothing.
use Rattle.std.proofs.Common.{rules}
use Rattle.real.proofs.ThousandthsLaws.{thousandths_laws}
use Rattle.real.proofs.thousandths.Goals as goal

pub overflow_sub-shift : goal.overflow_sub-shift
overflow_sub-shift c = search (thousandths_laws, rules)
