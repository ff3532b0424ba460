-- How the code looks for the branches under a node that span a height. A walk goes down, the first child's side before the second's, and no further
-- than the branches that it counts; it may look at so many nodes at most, so that it ends on any slices, and at no more once it has met the branch
-- with the number that it looks for. This serves the code's contracts alone: WalkLaws shows that on a valid tree it meets what rules/Rules lists.
-- Then, how one number holds a walk. Definitions only. Assumes nothing.
use Rattle.std.specs.Prelude.{◌≡◌, cond, ℕ, zero, suc, ◌+◌, ◌-◌, ◌/◌, ◌%◌, ◌≤◌, eqb, Float}
use Rattle.std.specs.Float.Ieee.{lt}
use Rattle.tree.specs.Tree.{Tree, no_node, nodes_of, inner, first, second, height}

-- the branch that was looked for, or none yet; how many were met before it; how many nodes may still be looked at
pub record Walk : Type 0 where
  pub found : ℕ
  pub met : ℕ
  pub left : ℕ

abbrev pub walk_of : ℕ → ℕ → ℕ → Walk
walk_of found met left = record { found = found; met = met; left = left }

-- no branch is found, none is met, and every one of n nodes may be looked at
abbrev pub outset : ℕ → Walk
outset n = walk_of no_node 0 n

-- the branch over k is met: it is the one, and nothing more is looked at, or it is one more
abbrev pub meet : ℕ → ℕ → Walk → Walk
meet index k w = cond (eqb w.met index) (walk_of k 0 0) (walk_of w.found (suc w.met) w.left)

-- the branch over k, or those under it, no further down than depth
unfoldable pub walk : ℕ → ℕ → Tree → Float → ℕ → ℕ → Walk → Walk
walk zero n t x index k w = w
walk (suc depth) n t x index k w =
    let v = walk_of w.found w.met (w.left - 1) in
    cond (eqb w.left 0) w
    (cond (lt (height t k) x) (meet index k v) (cond (inner n k) (walk depth n t x index (second t k) (walk depth n t x index (first t k) v)) v))

-- all branches counted: none has the number no_node
unfoldable pub counted : Tree → Float → ℕ → ℕ
counted t x k = let n = nodes_of t.pairs in (walk n n t x no_node k (outset n)).met

-- the branch with a number
unfoldable pub picked : Tree → Float → ℕ → ℕ → ℕ
picked t x k index = let n = nodes_of t.pairs in (walk n n t x index k (outset n)).found

-- ---- in one number

-- the walk that a number holds: 16 bits of what is left, above them 16 of what was met, and what was found above these
abbrev pub unpacked : ℕ → Walk
unpacked word = walk_of (word / 4294967296) (word / 65536 % 65536) (word % 65536)

-- the node found is of 16 bits, and no more branches than most were met or may still be
pub record Small (most word : ℕ) : Type 0 where
  pub found : word / 4294967296 ≤ 65535
  pub sum : word / 65536 % 65536 + word % 65536 ≤ most

-- such a number, and a node of 16 bits
pub record Ready (most k word : ℕ) : Type 0 where
  pub node : k ≤ 65535
  pub small : Small most word

-- a number holds the walk w
pub record Holds (w : Walk) (word : ℕ) : Type 0 where
  pub same : unpacked word ≡ w
  pub small : Small 65535 word
