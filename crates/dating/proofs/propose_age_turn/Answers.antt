-- `dating::propose_age_turn` meets its contract. Assumes nothing.
use Rattle.dating.proofs.TipAgeLaws.{turn-aged}
use Rattle.dating.proofs.propose_age_turn.Goals as goal

pub returns : goal.returns
returns c = turn-aged _ _ _ _ _ _ _ _ c.tips.ensures _ _ c.in-Some.ensures _ c.age_of-age.ensures _ _ c.age_tip.ensures
