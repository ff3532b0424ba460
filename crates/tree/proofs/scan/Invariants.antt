-- `tree::scan` meets its contract. Assumes nothing.
use Rattle.std.proofs.Common.{◌≡◌, length}
use Rattle.tree.specs.New.{filled, scan}
use Rattle.tree.proofs.scan.Given as goal

abbrev pub invariant-loop-node : goal.invariant-loop-node
invariant-loop-node l = (length l.parents ≡ length l.initial.parents) × (scan (length l.initial.parents) l.pairs l.node ≡ filled l.parents)
