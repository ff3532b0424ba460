-- A tree as it is lent, what its fields say of a node, the order in which its nodes are visited, and the place of a node in such a list. A list
-- read past its end gives 0, or nan for a height; nothing here is asked there. Definitions only. Assumes nothing.
use Rattle.std.specs.Prelude.{Bool, cond, List, [], ◌∷◌, ◌++◌, ℕ, zero, suc, ◌+◌, ◌/◌, ltb, eqb, length, get_or, Float}
use Rattle.std.specs.Float.{nan}

-- "Each node has a pair of u16 children": node k's are at 2k and 2k + 1 of the pairs
pub record Tree : Type 0 where
  pub pairs : List ℕ
  pub parents : List ℕ
  pub heights : List Float
  pub root : ℕ

-- "65,535 twice marks a tip"; the root's parent is this mark too
abbrev pub no_node : ℕ
no_node = 65535

-- how many nodes there are: as many as pairs
abbrev pub nodes_of : List ℕ → ℕ
nodes_of pairs = length pairs / 2

-- "With n nodes, tips are 0 to (n+1)/2 − 1"
abbrev pub tips_of : ℕ → ℕ
tips_of n = (n + 1) / 2

-- k is not among the tips of n nodes: n being odd, 2k is above n
abbrev pub inner : ℕ → ℕ → Bool
inner n k = ltb n (k + k)

-- the two children of node k
abbrev pub first_in : List ℕ → ℕ → ℕ
first_in pairs k = get_or pairs (k + k) 0

abbrev pub second_in : List ℕ → ℕ → ℕ
second_in pairs k = get_or pairs (suc (k + k)) 0

-- the child of p that is not k
abbrev pub other_in : List ℕ → ℕ → ℕ → ℕ
other_in pairs p k = cond (eqb (first_in pairs p) k) (second_in pairs p) (first_in pairs p)

abbrev pub first : Tree → ℕ → ℕ
first t k = first_in t.pairs k

abbrev pub second : Tree → ℕ → ℕ
second t k = second_in t.pairs k

unfoldable pub parent : Tree → ℕ → ℕ
parent t k = get_or t.parents k 0

unfoldable pub height : Tree → ℕ → Float
height t k = get_or t.heights k nan

-- the other child of k's parent
unfoldable pub sibling : Tree → ℕ → ℕ
sibling t k = other_in t.pairs (parent t k) k

-- the nodes of k's subtree, the first child's before the second's and these before k; n nodes in all, no deeper than depth
unfoldable pub subtree : ℕ → ℕ → List ℕ → ℕ → List ℕ
subtree zero n pairs k = []
subtree (suc depth) n pairs k = cond (inner n k) (subtree depth n pairs (first_in pairs k) ++ subtree depth n pairs (second_in pairs k)) [] ++ (k ∷ [])

-- all nodes below the root, itself included: a tree of n nodes is less than n deep
abbrev pub postorder : Tree → List ℕ
postorder t = subtree (nodes_of t.pairs) (nodes_of t.pairs) t.pairs t.root

-- the first place of a node in a list of nodes, from 0; the list's length where it is not in it
unfoldable pub place : List ℕ → ℕ → ℕ
place [] c = 0
place (k ∷ ks) c = cond (eqb k c) 0 (suc (place ks c))
