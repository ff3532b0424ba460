-- The way through the regraft: the three nodes that move are nodes, and the tree afterwards is the rule's. Assumes nothing.
use mathlib.Core.Path.{◌≡◌, ap, ◌∙◌}
use mathlib.Core.List.{List}
use Prim.Native.Nat.{ℕ, ◌<◌}
use lib.ListN.{get_or, set}
use lib.Ieee.{Float}
use Rattle.tree.specs.Tree.{Tree, nodes_of, other_in, parent, sibling}
use Rattle.tree.specs.Given.{tree_of}
use Rattle.accepted.specs.WayLaws.{valid-linked}
use Rattle.edits.specs.Slots.{rotate, bare}
use Rattle.edits.specs.Needs.{Rotates}
use Rattle.edits.specs.NeedsLaws.{valid-rotates, height-whole, rotate-whole}
use Rattle.rules.specs.Rules.{regraft}
use Rattle.reversal.specs.FamilyLaws.{sibling-is}
use Rattle.grafts.specs.Given.{Regrafts}

-- p is the node's parent and b its sibling, as they were read
module _ (pairs parents : List ℕ) (heights : List Float) (root i j : ℕ) (g : Regrafts pairs parents heights root i j) (p : ℕ) (ep : p ≡ get_or parents i 0)
    (b : ℕ) (eb : b ≡ other_in pairs p i) where
  abbrev t : Tree
  t = tree_of pairs parents heights root

  abbrev n : ℕ
  n = nodes_of pairs

  parent_is : p ≡ parent t i
  unfolding parent
  parent_is = ep

  sibling-read : b ≡ sibling t i
  unfolding sibling
  sibling-read = eb ∙ ap (λ (k : ℕ). other_in pairs k i) parent_is

  parent_node : p < n
  parent_node = rw parent_is (g.valid.below i g.node g.under).parent_node

  rotates : Rotates pairs parents root b p j
  rotates = valid-rotates g.valid b p j (rw sibling-read (sibling-is (valid-linked g.valid) i g.node g.under).node) parent_node g.to

  -- ps, qs and r are what the rotation left, and hs what the height did
  pub regrafted : (x : Float) (ps qs : List ℕ) (r : ℕ) → (Rotates pairs parents root b p j → bare ps qs r ≡ rotate n (bare pairs parents root) b p j)
      → (hs : List Float) → hs ≡ set heights p x → tree_of ps qs hs r ≡ regraft n t i j x
  unfolding regraft
  regrafted x ps qs r e hs f =
      rw (← parent_is, ← sibling-read, ← rotate-whole n t b p j (e rotates)) (height-whole (tree_of ps qs heights r) p x f)
