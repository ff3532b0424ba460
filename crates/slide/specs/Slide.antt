-- What the code of a slide's second call needs, to be the defined one. i is the node, and P its parent. Definitions only. Assumes nothing.
use Rattle.std.specs.Prelude.{◌≡◌, ◌≢◌, Bool, true, false, List, ℕ, ◌<◌, Float}
use Rattle.std.specs.Float.Ieee.{lt}
use Rattle.std.specs.Float.Ieee.Scale.{finite}
use Rattle.tree.specs.Tree.{nodes_of, parent, height, sibling}
use Rattle.tree.specs.Valid.{Valid}
use Rattle.tree.specs.Given.{tree_of}
use Rattle.rules.specs.Rules.{rises}

-- the tree is valid, and i is one of its nodes that has a parent
pub record Slidable (pairs parents : List ℕ) (heights : List Float) (root i : ℕ) : Type 0 where
  pub valid : Valid (nodes_of pairs) (tree_of pairs parents heights root)
  pub node : i < nodes_of pairs
  pub under : i ≢ root

-- P's new height x is finite, and above the old one or not
pub record Goes (up : Bool) (pairs parents : List ℕ) (heights : List Float) (root i : ℕ) (x : Float) : Type 0 where
  pub slides : Slidable pairs parents heights root i
  pub number : finite x ≡ true
  pub way : rises (tree_of pairs parents heights root) i x ≡ up

-- it is above the old one; p is P, and old its old height
pub record GoesUp (pairs parents : List ℕ) (heights : List Float) (root i p : ℕ) (old x : Float) : Type 0 where
  pub goes : Goes true pairs parents heights root i x
  pub above : p ≡ parent (tree_of pairs parents heights root) i
  pub from : old ≡ height (tree_of pairs parents heights root) p

-- it is not above the old one; p is P
pub record GoesDown (pairs parents : List ℕ) (heights : List Float) (root i p : ℕ) (x : Float) : Type 0 where
  pub goes : Goes false pairs parents heights root i x
  pub above : p ≡ parent (tree_of pairs parents heights root) i

-- it is not above the old one, not below i and below the sibling k
pub record Lowers (pairs parents : List ℕ) (heights : List Float) (root i k : ℕ) (x : Float) : Type 0 where
  pub goes : Goes false pairs parents heights root i x
  pub over : lt x (height (tree_of pairs parents heights root) i) ≡ false
  pub beside : k ≡ sibling (tree_of pairs parents heights root) i
  pub past : lt x (height (tree_of pairs parents heights root) (sibling (tree_of pairs parents heights root) i)) ≡ true
