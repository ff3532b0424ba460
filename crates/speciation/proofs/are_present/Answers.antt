-- `speciation::are_present` meets its contract. Assumes nothing.
use Rattle.std.proofs.Common.{rules}
use Rattle.speciation.proofs.YuleLaws.{present-each}
use Rattle.speciation.proofs.are_present.Goals as goal

pub returns : goal.returns
returns c = present-each c.args.heights.now c.all.result (search rules)
