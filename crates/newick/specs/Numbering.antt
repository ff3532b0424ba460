-- The pairs and the ages that a Newick value gives, by change request S-1: "internal nodes numbered in the order their parentheses close, and ages in whole
-- thousandths above the youngest tip". Definitions only. Assumes nothing.
use Rattle.std.specs.Prelude.{cond, List, ℕ, suc, ◌+◌, ◌-◌, max, eqb, set, replicate}
use Rattle.tree.specs.Tree.{no_node}
use Rattle.newick.specs.Newick.{Newick, tip, join}

-- ---- counts

-- the parentheses, each of which joins two subtrees
unfoldable pub joins : Newick → ℕ
joins (tip k) = 0
joins (join a x b y) = suc (joins a + joins b)

abbrev pub tips_in : Newick → ℕ
tips_in t = suc (joins t)

abbrev pub nodes_in : Newick → ℕ
nodes_in t = suc (joins t + joins t)

-- how often a tip number occurs
unfoldable pub times : ℕ → Newick → ℕ
times j (tip k) = cond (eqb j k) 1 0
times j (join a x b y) = times j a + times j b

-- ---- pairs

-- the number of a subtree's upper node, where the next parenthesis to close has the number base
unfoldable pub node_of : ℕ → Newick → ℕ
node_of base (tip k) = k
node_of base (join a x b y) = base + joins a + joins b

-- its pairs, put into a list: those of the first subtree, of the second, and its own, as the parentheses close
unfoldable pub pairs_in : ℕ → Newick → List ℕ → List ℕ
pairs_in base (tip k) ps = ps
pairs_in base (join a x b y) ps =
    let v = base + joins a + joins b in
    set (set (pairs_in (base + joins a) b (pairs_in base a ps)) (v + v) (node_of base a)) (suc (v + v)) (node_of (base + joins a) b)

-- "It yields pairs": the tips come first
unfoldable pub pairs_read : Newick → List ℕ
pairs_read t = pairs_in (tips_in t) t (replicate (nodes_in t + nodes_in t) no_node)

-- ---- ages

-- the longest way down to a tip, which is the age of the upper node "above the youngest tip"
unfoldable pub reach : Newick → ℕ
reach (tip k) = 0
reach (join a x b y) = max (x + reach a) (y + reach b)

-- the ages of a subtree whose upper node has the age h, put into a list
unfoldable pub ages_in : ℕ → ℕ → Newick → List ℕ → List ℕ
ages_in base h (tip k) l = set l k h
ages_in base h (join a x b y) l = set (ages_in (base + joins a) (h - y) b (ages_in base (h - x) a l)) (base + joins a + joins b) h

-- "and ages in whole thousandths above the youngest tip"
unfoldable pub ages_read : Newick → List ℕ
ages_read t = ages_in (tips_in t) (reach t) t (replicate (nodes_in t) 0)
