-- `exchanges::grands` meets its contract. Assumes nothing.
use mathlib.Core.Path.{◌≡◌}
use Rattle.rules.specs.Rules.{grands}
use Rattle.exchanges.specs.Given.{pairs_in}
use Rattle.exchanges.proofs.grands.Given as goal

abbrev pub invariant-loop-k : goal.invariant-loop-k
invariant-loop-k l = l.count ≡ grands l.n (pairs_in l.pairs) l.k
