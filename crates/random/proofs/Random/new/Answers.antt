-- `random::Random::new` meets its contract. Assumes nothing.
use Rattle.random.specs.SplitMix.{outputs}
use Rattle.random.specs.Generator.{seeded}
use Rattle.random.proofs.Random.new.Goals as goal

pub returns : goal.returns
unfolding seeded outputs
returns c = cc
