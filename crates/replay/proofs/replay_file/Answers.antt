-- No more bytes are given than the answer's slice has. Assumes nothing.
use Rattle.std.proofs.Common.{ℕ}
use Rattle.std.proofs.lemmas.List.{length-replicate}
use Rattle.replay.proofs.ReplayLaws.{file-few, file-long, file-compared}
use Rattle.replay.proofs.replay_file.Goals as goal

pub slice_bounds-answer-end : goal.slice_bounds-answer-end
slice_bounds-answer-end c = file-few 131136 _ _ (length-replicate {A = ℕ} 131136 0) _ _ c.respond-count.ensures

pub slice_bounds-compare-end : goal.slice_bounds-compare-end
slice_bounds-compare-end c = file-long 131136 _ _ (length-replicate {A = ℕ} 131136 0) _ _ c.respond-count.ensures

pub returns : goal.returns
returns c = file-compared 131136 _ _ (length-replicate {A = ℕ} 131136 0) _ _ c.respond-count.ensures _ _ c.compare.ensures
