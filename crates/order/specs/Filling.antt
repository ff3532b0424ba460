-- How the code fills a slice with a tree's postorder from its end. At each time the slice holds, in its first places, nodes whose subtrees are
-- still to be placed, and in its last places what is placed. Definitions only. Assumes nothing.
use Rattle.std.specs.Prelude.{◌≡◌, cond, List, [], ◌∷◌, ◌++◌, ℕ, suc, ◌+◌, ◌≤◌, ◌<◌, length, get_or, set, take, drop, Float}
use Rattle.tree.specs.Tree.{inner, first_in, second_in, subtree}
use Rattle.tree.specs.Valid.{Valid}
use Rattle.tree.specs.Given.{tree_of}

-- how many nodes wait, and the slice
pub record Waiting : Type 0 where
  pub count : ℕ
  pub order : List ℕ

abbrev pub waiting : ℕ → List ℕ → Waiting
waiting count order = record { count = count; order = order }

-- the last of the nodes that wait is placed, and its children wait in its stead
unfoldable pub visited : List ℕ → List ℕ → ℕ → ℕ → Waiting
visited pairs order last at =
    let k = get_or order last 0 in
    let placed = set order at k in
    cond (inner (length order) k) (waiting (last + 2) (set (set placed last (first_in pairs k)) (suc last) (second_in pairs k))) (waiting last placed)

pub record Visits (pairs order : List ℕ) (last at : ℕ) : Type 0 where
  pub few : length order ≤ 4095
  pub twice : length pairs ≡ length order + length order
  pub node : get_or order last 0 < length order
  pub waits : last < length order
  pub place : at < length order
  pub room : length order < get_or order last 0 + get_or order last 0 → suc last < length order

-- the pairs and the root are those of a valid tree of n nodes
pub record Fills (pairs : List ℕ) (root n : ℕ) : Type 0 where
  pub parents : List ℕ
  pub heights : List Float
  pub valid : Valid n (tree_of pairs parents heights root)

-- the subtrees of the nodes that wait, one after the other
unfoldable pub spread : ℕ → List ℕ → List ℕ → List ℕ
spread n pairs [] = []
spread n pairs (k ∷ ks) = subtree n n pairs k ++ spread n pairs ks

-- count nodes wait, and from place `at` on the nodes are placed
pub record Filling (pairs : List ℕ) (root n count at : ℕ) (order : List ℕ) : Type 0 where
  pub fills : Fills pairs root n
  pub long : length order ≡ n
  pub fit : count ≤ n
  pub end : at ≤ n
  pub nodes : (j : ℕ) → j < count → get_or order j 0 < n
  pub rest : spread (n) pairs (take count order) ++ drop at order ≡ subtree n n pairs root
