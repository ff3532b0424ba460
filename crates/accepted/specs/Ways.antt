-- What the laws of accepted trees speak of: who is whose child (`Linked`), how far a node is from the root (`Way`), and which nodes are under
-- which (`Under`). Definitions only. Assumes nothing.
use Rattle.std.specs.Prelude.{◌≡◌, ◌≢◌, ℕ, suc, ◌+◌, ◌≤◌, ◌<◌}
use Rattle.tree.specs.Tree.{Tree, no_node, parent}
use Rattle.tree.specs.Valid.{Inner, Below}

-- what a valid tree has in common with one whose pairs were scanned and that has one root: nothing is said of rings beside it, nor of heights
pub record Linked (n : ℕ) (t : Tree) : Type 0 where
  pub few : n ≤ 4095
  pub inner : (k : ℕ) → k < n → n < k + k → Inner n t k
  pub root_node : t.root < n
  pub root_parent : parent t t.root ≡ no_node
  pub below : (c : ℕ) → c < n → c ≢ t.root → Below n t c

-- from node k it is d steps to the root
pub data Way (t : Tree) : ℕ → ℕ → Type 0 where
  arrived : {k : ℕ} → k ≡ t.root → Way t 0 k
  climbs : {d k : ℕ} → k ≢ t.root → Way t d (parent t k) → Way t (suc d) k

-- node c is k, or it is a node other than the root whose parent is under k
pub data Under (n : ℕ) (t : Tree) : ℕ → ℕ → Type 0 where
  itself : {k : ℕ} → Under n t k k
  through : {c k : ℕ} → c < n → c ≢ t.root → Under n t (parent t c) k → Under n t c k
