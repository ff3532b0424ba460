-- `edits::rotate` meets its contract. Assumes nothing.
use Rattle.edits.proofs.SequenceLaws.{rotated}
use borrow.Author.Rules.{rules}
use Rattle.edits.proofs.rotate.Goals as goal

-- the places after the six calls, from the last to the first
pub returns : goal.returns
returns c = λ v.
    rotated _ _ _ _ _ _ _ _ _ _ _ _ _ _ _ _ v c.slot_of-x.ensures c.slot_of-y.ensures c.slot_of-z.ensures c.put-first.ensures (search rules) (search rules)
    c.put-second.ensures (search rules) (search rules) c.put.ensures
