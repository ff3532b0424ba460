-- Calls of the tree moves and of TipAge one after the other: the tree that they leave, and what has to be known of each for that to be accepted
-- (StepsLaws). Definitions only. Assumes nothing.
use Rattle.std.specs.Prelude.{List, [], ◌∷◌, ℕ, Float}
use Rattle.random.specs.declared.Random.{Random}
use Rattle.tree.specs.Tree.{Tree}
use Rattle.moves.specs.Moves.{move_call}
use Rattle.moves.specs.Ends.{tree_left, Settled, Asked}
use Rattle.process.specs.declared.FossilizedBirthDeath.{FossilizedBirthDeath}
use Rattle.dating.specs.TipAge.{tip_age_call}

-- a call of TipAge that is asked for: a table of ages, a process, a generator and an allowance
pub record AskedAge : Type 0 where
  pub minima : List Float
  pub maxima : List Float
  pub process : FossilizedBirthDeath
  pub random : Random
  pub allowance : ℕ

-- a call of a tree move, or one of TipAge
pub data Step : Type 0 where
  moves : Asked → Step
  ages : AskedAge → Step

-- the tree that a step leaves
abbrev pub tree_stepped : Step → Tree → Tree
tree_stepped (moves c) t = tree_left (move_call c.move t c.random c.allowance) t.root
tree_stepped (ages c) t = tree_left (tip_age_call c.minima c.maxima c.process t c.random c.allowance) t.root

-- what has to be known of a step on the tree t: of a move, what is asked of the tree that it leaves; of TipAge, nothing
abbrev pub Warranted : Step → Tree → Type 0
Warranted (moves c) t = Settled c.move (tree_stepped (moves c) t)
Warranted (ages c) t = Unit {0}

-- the tree after some steps, each made on what the one before it left
unfoldable pub tree_steps : List Step → Tree → Tree
tree_steps [] t = t
tree_steps (s ∷ ss) t = tree_steps ss (tree_stepped s t)

-- each of the steps is warranted on what the one before it left
unfoldable pub AllWarranted : List Step → Tree → Type 0
AllWarranted [] t = Unit {0}
AllWarranted (s ∷ ss) t = Warranted s t × AllWarranted ss (tree_stepped s t)
