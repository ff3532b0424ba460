-- `edits::exchange` meets its contract. Assumes nothing.
use Rattle.edits.proofs.SequenceLaws.{exchanged}
use borrow.Author.Rules.{rules}
use Rattle.edits.proofs.exchange.Goals as goal

-- the places after the four calls, from the last to the first
pub returns : goal.returns
returns c = λ v.
    exchanged _ _ _ _ _ _ _ _ _ _ _ v c.slot_of-x.ensures c.slot_of-y.ensures c.put-first.ensures (search rules) (search rules) c.put.ensures
