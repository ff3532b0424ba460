-- `clades::find` meets its contract. Assumes nothing.
use borrow.Author.Rules.{rules}
use Rattle.clades.proofs.FindLaws.{find_laws}
use Rattle.clades.proofs.find.Goals as goal

pub weigh-below-requires : goal.weigh-below-requires
weigh-below-requires c = search (find_laws, rules)

pub returns-then-below-size : goal.returns-then-below-size
returns-then-below-size c = search (find_laws, rules)

pub bounds-weights-node : goal.bounds-weights-node
bounds-weights-node c = search (find_laws, rules)

pub loop-node-preserved : goal.loop-node-preserved
loop-node-preserved c = search (find_laws, rules)

pub returns : goal.returns
returns c = search (find_laws, rules)
