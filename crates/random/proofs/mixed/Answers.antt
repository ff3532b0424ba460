-- `random::mixed` meets its contract. Assumes nothing.
use Rattle.random.specs.SplitMix.{mix, xor_shift}
use Rattle.random.proofs.mixed.Goals as goal

pub returns : goal.returns
unfolding mix xor_shift
returns c = cc
