-- `slide::subtree_slide_turn` meets its contract. Assumes nothing.
use Rattle.slide.proofs.SlideLaws.{turn-not-finite, turn_up, turn-down}
use Rattle.slide.proofs.subtree_slide_turn.Goals as goal

pub returns-then-not-is_finite : goal.returns-then-not-is_finite
returns-then-not-is_finite c = turn-not-finite _ _ _ _ _ _ _ c.parent-p.ensures _ c.height-old.ensures _ c.is_finite.ensures c.if-not-is_finite.true _

pub returns-then-old-x : goal.returns-then-old-x
returns-then-old-x c =
    turn_up _ _ _ _ _ _ _ c.parent-p.ensures _ c.height-old.ensures _ c.is_finite.ensures c.if-not-is_finite.false c.if-old-x.true _ _ c.slide_up.ensures

pub returns-else-old-x : goal.returns-else-old-x
returns-else-old-x c =
    turn-down _ _ _ _ _ _ _ c.parent-p.ensures _ c.height-old.ensures _ c.is_finite.ensures c.if-not-is_finite.false c.if-old-x.false _ _ c.slide_down.ensures
