-- `print::put_many` meets its contract: the number falls. Assumes nothing.
use Rattle.print.proofs.+put_many.Given as goal

abbrev pub decreases-put_many : goal.decreases-put_many
decreases-put_many l = l.n
