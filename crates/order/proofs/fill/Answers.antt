-- `order::fill` meets its contract. Assumes nothing.
use Rattle.order.proofs.FillLaws.{fill_laws}
use borrow.Author.Rules.{rules}
use Rattle.order.proofs.fill.Goals as goal

pub loop-count-init : goal.loop-count-init
loop-count-init c = search (fill_laws, rules)

pub overflow_sub-at : goal.overflow_sub-at
overflow_sub-at c = search (fill_laws, rules)

pub visit-count-requires : goal.visit-count-requires
visit-count-requires c = search (fill_laws, rules)

pub loop-count-smaller : goal.loop-count-smaller
loop-count-smaller c = search (fill_laws, rules)

pub loop-count-preserved : goal.loop-count-preserved
loop-count-preserved c = search (fill_laws, rules)
