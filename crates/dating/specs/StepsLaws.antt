-- Any number of calls of the tree moves and of TipAge, one after the other, leaves an accepted tree (`steps-accepted`). Of the moves nothing has to be known
-- but after TreeScale that no tip is above its parent (moves/Ends: `Settled`). Assumes nothing.
use Rattle.std.specs.Prelude.{List, [], ◌∷◌}
use Rattle.tree.specs.Tree.{Tree}
use Rattle.tree.specs.New.{Accepted}
use Rattle.moves.proofs.Demands.{stays-settled}
use Rattle.dating.specs.Steps.{Step, moves, ages, tree_stepped, Warranted, tree_steps, AllWarranted}
use Rattle.dating.specs.AgeDemands.{age-stays}

-- one step
step-accepted : (s : Step) (t : Tree) → Accepted t → Warranted s t → Accepted (tree_stepped s t)
step-accepted (moves c) t p w = stays-settled c.move t c.random p c.allowance w
step-accepted (ages c) t p w = age-stays c.minima c.maxima c.process t c.random c.allowance p

-- from an accepted tree, steps that are warranted leave a tree that `Tree::new` accepts
pub steps-accepted : (steps : List Step) (t : Tree) → Accepted t → AllWarranted steps t → Accepted (tree_steps steps t)
unfolding tree_steps AllWarranted
steps-accepted [] t p w = p
steps-accepted (s ∷ ss) t p w = steps-accepted ss (tree_stepped s t) (step-accepted s t p w.0) w.1
