-- What the slices that are lent to a regraft must give for it to be the defined one. Definitions only. Assumes nothing.
use Rattle.std.specs.Prelude.{◌≢◌, List, ℕ, ◌<◌, Float}
use Rattle.tree.specs.Tree.{nodes_of}
use Rattle.tree.specs.Valid.{Valid}
use Rattle.tree.specs.Given.{tree_of}

-- the tree is valid, i is one of its nodes that has a parent, and j is one of its nodes
pub record Regrafts (pairs parents : List ℕ) (heights : List Float) (root i j : ℕ) : Type 0 where
  pub valid : Valid (nodes_of pairs) (tree_of pairs parents heights root)
  pub node : i < nodes_of pairs
  pub under : i ≢ root
  pub to : j < nodes_of pairs
