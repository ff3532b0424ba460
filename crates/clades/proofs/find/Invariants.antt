-- `clades::find` meets its contract. Assumes nothing.
use Rattle.clades.proofs.FindLaws.{Finding}
use Rattle.clades.proofs.find.Given as goal

abbrev pub invariant-loop-node : goal.invariant-loop-node
invariant-loop-node l = Finding l.pairs l.members l.order l.weights l.others l.size l.node-index
