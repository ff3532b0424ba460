-- `statefile_text::less_pairs` meets its contract. Assumes nothing.
use Rattle.statefile_text.proofs.RoomLaws.{Taken}
use Rattle.statefile_text.proofs.less_pairs.Given as goal

abbrev pub invariant-loop-k : goal.invariant-loop-k
invariant-loop-k l = Taken l.pairs l.room l.n l.k l.left
