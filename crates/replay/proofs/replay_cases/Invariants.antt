-- What comes of all cases is what comes of those left. Assumes nothing.
use Rattle.std.proofs.Common.{drop}
use Rattle.replay.specs.Replay.{outcome}
use Rattle.replay.proofs.ReplayLaws.{Going}
use Rattle.replay.proofs.replay_cases.Given as goal

abbrev pub invariant-loop-k : goal.invariant-loop-k
invariant-loop-k l = Going l.s l.count l.k l.place (outcome l.count 0 (drop l.at l.s))
