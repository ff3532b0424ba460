-- `heights::tree_scale_unvalidated` meets its contract. Assumes nothing.
use Rattle.heights.proofs.tree_scale_unvalidated.Goals as goal

pub returns : goal.returns
returns c = rw c.scale_by.ensures c.tree_scale_answer-answered.ensures
