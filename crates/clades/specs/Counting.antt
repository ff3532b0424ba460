-- How the code finds a set's node: each tip has a weight, and a node is told by what its tips weigh together. Definitions only. Assumes
-- nothing.
use Rattle.std.specs.Prelude.{◌≡◌, Bool, cond, List, [], ◌∷◌, ℕ, zero, suc, ◌+◌, ◌≤◌, ◌<◌, ltb, eqb, length, get_or}
use Rattle.tree.specs.Tree.{tips_of, first_in, second_in, subtree}
use Rattle.order.specs.Filling.{Fills}
use Rattle.clades.specs.Clades.{marked, size_of}

-- ---- sums

-- over a list
unfoldable pub total : (ℕ → ℕ) → List ℕ → ℕ
total f [] = 0
total f (x ∷ l) = f x + total f l

-- over the first m numbers
unfoldable pub total_to : (ℕ → ℕ) → ℕ → ℕ
total_to f zero = 0
total_to f (suc m) = total_to f m + f m

-- ---- weights

-- a tip in the set weighs 1, one that is not in it as much as `others` says, and an inner node nothing
unfoldable pub weight : List Bool → ℕ → ℕ → ℕ
weight members others k = cond (ltb k (length members)) (cond (marked members k) 1 others) 0

-- what the tips below node k weigh, of n nodes
unfoldable pub weight_below : ℕ → List ℕ → List Bool → ℕ → ℕ → ℕ
weight_below n pairs members others k = total (weight members others) (subtree n n pairs k)

-- the tips below node k weigh as much as the set
unfoldable pub weighs : ℕ → List ℕ → List Bool → ℕ → ℕ → Bool
weighs n pairs members others k = eqb (weight_below n pairs members others k) (size_of members)

-- what the tips below node k weigh, from the weights of its children
unfoldable pub weighed : List ℕ → List Bool → List ℕ → ℕ → ℕ → ℕ
weighed pairs members weights others k =
    cond (ltb k (length members)) (weight members others k) (get_or weights (first_in pairs k) 0 + get_or weights (second_in pairs k) 0)

-- ---- the search

-- the first in a list that passes the test; `none` where none does
unfoldable pub first_or : ℕ → (ℕ → Bool) → List ℕ → ℕ
first_or none test [] = none
first_or none test (x ∷ l) = cond (test x) x (first_or none test l)

-- the first of n nodes in postorder whose tips weigh as much as the set, or n
abbrev pub first_weighing : ℕ → List ℕ → ℕ → List Bool → ℕ → ℕ
first_weighing n pairs root members others = first_or n (weighs n pairs members others) (subtree n n pairs root)

-- ---- what is asked

-- a valid tree of n nodes with one mark for each tip, the weight of a tip outside the set, and the size of the set
pub record Seeks (pairs : List ℕ) (root : ℕ) (members : List Bool) (others size n : ℕ) : Type 0 where
  pub fills : Fills pairs root n
  pub marks : length members ≡ tips_of n
  pub light : others ≤ 65536
  pub counted : size ≡ size_of members

-- these, with a place for the postorder and one for the weights
pub record Places (pairs : List ℕ) (root : ℕ) (members : List Bool) (others size : ℕ) (order weights : List ℕ) : Type 0 where
  pub seeks : Seeks pairs root members others size (length order)
  pub long : length weights ≡ length order

-- these, with the postorder in its place
pub record Finds (pairs : List ℕ) (members : List Bool) (order weights : List ℕ) (others size : ℕ) : Type 0 where
  pub root : ℕ
  pub places : Places pairs root members others size order weights
  pub placed : order ≡ subtree (length order) (length order) pairs root

-- what 4,095 nodes of 65,536 each weigh
abbrev pub heaviest : ℕ
heaviest = 268369920

-- a node whose children, if it is no tip, have their weights
pub record Weighs (pairs : List ℕ) (members : List Bool) (weights : List ℕ) (k : ℕ) : Type 0 where
  pub few : length weights ≤ 4095
  pub twice : length pairs ≡ length weights + length weights
  pub node : k < length weights
  pub one : length members ≤ k → first_in pairs k < length weights
  pub two : length members ≤ k → second_in pairs k < length weights
  pub one_light : length members ≤ k → get_or weights (first_in pairs k) 0 ≤ heaviest
  pub two_light : length members ≤ k → get_or weights (second_in pairs k) 0 ≤ heaviest
