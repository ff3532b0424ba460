-- `ages::judge` meets its contract. Assumes nothing.
use mathlib.Core.Path.{◌≡◌}
use Rattle.answer.specs.declared.Refusal.TheVariants.{Parameter}
use Rattle.tree.specs.New.{lowest}
use Rattle.ages.specs.Ages.{at_fault}
use Rattle.ages.proofs.judge.Given as goal
use Rattle.std.specs.Prelude.{Ok}

abbrev pub invariant-loop-tip : goal.invariant-loop-tip
invariant-loop-tip l = lowest (at_fault l.process l.minima l.maxima) Parameter l.tip ≡ (Ok tt)
