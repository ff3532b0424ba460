-- `dating::oldest` meets its contract. Assumes nothing.
use mathlib.Core.Path.{◌≡◌}
use Rattle.dating.specs.Initialize.{oldest}
use Rattle.dating.proofs.oldest.Given as goal

abbrev pub invariant-loop-tip : goal.invariant-loop-tip
invariant-loop-tip l = l.old ≡ oldest l.minima l.maxima l.tip
