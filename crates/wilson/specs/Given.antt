-- The parts into which the code of WilsonBalding takes its rule, and what they need. Definitions only. Assumes nothing.
use Rattle.std.specs.Prelude.{◌≡◌, Bool, cond, ◌||◌, List, ℕ, eqb, Float, Option, Some, None}
use Rattle.real.specs.Real.{max_of}
use Rattle.tree.specs.Tree.{Tree, parent, height}
use Rattle.tree.specs.Given.{tree_of}
use Rattle.rules.specs.Rules.{new_range, old_range, wilson_declines}
use Rattle.calls.specs.Given.{height_of}
use Rattle.grafts.specs.Given.{Regrafts}

-- ---- the parts

-- "j or p is the root, or q = p, j = p, q = i"
unfoldable pub barred : Tree → ℕ → ℕ → Bool
barred t i j =
    let p = parent t i in
    let q = parent t j in
    eqb j t.root || eqb p t.root || eqb q p || eqb j p || eqb q i

-- the new range and the old, or none where the move is declined
abbrev pub ranges_of : Tree → ℕ → ℕ → Option (Float × Float)
ranges_of t i j = cond (wilson_declines t i j) None (Some (new_range t i j, old_range t i))

-- the height that a uniform takes "from max(h(i), h(j)) to h(q)"
abbrev pub branch_height : Tree → ℕ → ℕ → Float → Option Float
branch_height t i j u = height_of (max_of (height t i) (height t j)) (height t (parent t j)) u

-- ---- what is needed

-- the tree and the nodes are those that a regraft takes, and new and old are the ranges
pub record Ranged (pairs parents : List ℕ) (heights : List Float) (root i j : ℕ) (new old : Float) : Type 0 where
  pub regrafts : Regrafts pairs parents heights root i j
  pub new_is : new ≡ new_range (tree_of pairs parents heights root) i j
  pub old_is : old ≡ old_range (tree_of pairs parents heights root) i
