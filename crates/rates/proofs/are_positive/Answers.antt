-- `rates::are_positive` meets its contract. Assumes nothing.
use Rattle.std.proofs.Common.{rules}
use Rattle.rates.proofs.ClockLaws.{rates-each}
use Rattle.rates.proofs.are_positive.Goals as goal

pub returns : goal.returns
returns c = rates-each _ _ (search rules)
