-- A test of a tree with fitting lengths that reads each pair once and keeps no list. It lets pass the valid trees in which every child is younger than
-- its parent, and no other (QuickLaws). Definitions only. Assumes nothing.
use Rattle.std.specs.Prelude.{Bool, not, ◌&&◌, List, ℕ, ◌+◌, ◌/◌, ◌<◌, ltb, eqb, length, get_or, Float}
use Rattle.std.specs.Float.{nan}
use Rattle.std.specs.Float.Ieee.{lt, le}
use Rattle.real.specs.Real as Real
use Rattle.tree.specs.Tree.{Tree, no_node, tips_of, first_in, second_in, parent, height}
use Rattle.tree.specs.Given.{tree_of}
use Rattle.tree.specs.Valid.{Sized}
use Rattle.tree.specs.Bounded.{every}

-- ---- the test

-- the number at place i of the pairs is the mark
abbrev pub is_mark : List ℕ → ℕ → Bool
is_mark pairs i = eqb (get_or pairs i 0) no_node

-- node k's height is a number that is not negative; −0.0 is zero
abbrev pub is_age : List Float → ℕ → Bool
is_age hs k = le Real.zero (get_or hs k nan)

-- k's children are two nodes, whose parent is k, and both are younger than k
unfoldable pub family : ℕ → List ℕ → List ℕ → List Float → ℕ → Bool
family n pairs ps hs k =
    let a = first_in pairs k in
    let b = second_in pairs k in
    let h = get_or hs k nan in
    ltb a n && ltb b n && not (eqb a b) && eqb (get_or ps a 0) k && eqb (get_or ps b 0) k && lt (get_or hs a nan) h && lt (get_or hs b nan) h

-- the same of the internal node at j from the first: the tips come before it
abbrev pub family_at : ℕ → List ℕ → List ℕ → List Float → ℕ → Bool
family_at n pairs ps hs j = family n pairs ps hs (tips_of n + j)

-- the root is a node without a parent, at a height below infinity
abbrev pub is_top : ℕ → Tree → Bool
is_top n t = ltb t.root n && eqb (parent t t.root) no_node && lt (height t t.root) Real.infinity

-- of n nodes: the root's test, the marks and heights of the tips, and the families of the internal nodes
unfoldable pub strict : ℕ → Tree → Bool
strict n t =
    is_top n t && every (is_mark t.pairs) (n + 1) && every (is_age t.heights) (tips_of n) && every (family_at n t.pairs t.parents t.heights) (n / 2)

-- ---- what is asked

-- slices that have the lengths of a tree, whatever its root
abbrev pub Lent : List ℕ → List ℕ → List Float → Type 0
Lent pairs ps hs = Sized (length hs) (tree_of pairs ps hs 0)

-- node k of such slices
pub record Reads (pairs ps : List ℕ) (hs : List Float) (k : ℕ) : Type 0 where
  pub lent : Lent pairs ps hs
  pub node : k < length hs
