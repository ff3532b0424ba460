-- `speciation::internal_total` meets its contract. Assumes nothing.
use Rattle.speciation.proofs.YuleLaws.{total-end}
use Rattle.speciation.proofs.internal_total.Goals as goal

pub returns : goal.returns
returns c = total-end c.args.heights.now c.loop-k.k c.loop-k.sum c.loop-k.invariant.1 c.loop-k-test.false c.loop-k.invariant.0
