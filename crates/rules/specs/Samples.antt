-- Trees, heights and choices of which the rows speak, and what a row says: an accepted tree with an admitted choice, the tree and the ratio that it
-- makes (`Row`), with one that is listed and declined (`Declined`), or with one that is not listed (`Unlisted`). Assumes nothing.
use Rattle.std.specs.Prelude.{◌≡◌, Bool, true, false, List, [], ◌∷◌, ℕ, T, Float}
use Rattle.std.proofs.Common.{subst}
use Rattle.std.specs.Float.{binary64}
use Rattle.std.specs.Float.Ieee.{of_bits}
use Rattle.answer.specs.declared.Ratio.{Ratio}
use Rattle.tree.specs.Tree.{Tree, no_node, nodes_of}
use Rattle.tree.specs.New.{Accepted}
use Rattle.rules.specs.Moves.{Reversible, NodeHeight, SubtreeSlide, NarrowExchange, WideExchange, WilsonBalding, Choice, Listed, declines, made, ratio_of, Makes}
use Rattle.rules.specs.Tests.{lists}
use Rattle.rules.specs.TestLaws.{lists_agree}

-- ---- heights

abbrev pub 0·0 : Float
0·0 = of_bits binary64 0

-- -0.0
abbrev pub −0·0 : Float
−0·0 = of_bits binary64 0x8000_0000_0000_0000

abbrev pub 0·5 : Float
0·5 = of_bits binary64 0x3fe0_0000_0000_0000

abbrev pub 1·0 : Float
1·0 = of_bits binary64 0x3ff0_0000_0000_0000

abbrev pub 1·5 : Float
1·5 = of_bits binary64 0x3ff8_0000_0000_0000

abbrev pub 2·0 : Float
2·0 = of_bits binary64 0x4000_0000_0000_0000

abbrev pub 2·5 : Float
2·5 = of_bits binary64 0x4004_0000_0000_0000

abbrev pub 3·0 : Float
3·0 = of_bits binary64 0x4008_0000_0000_0000

abbrev pub 5·0 : Float
5·0 = of_bits binary64 0x4014_0000_0000_0000

-- ---- trees

-- five nodes: 3 = (a, b) and 4 = (c, d), with the heights of all
abbrev pub five : ℕ → ℕ → ℕ → ℕ → List ℕ → List Float → ℕ → Tree
five a b c d parents heights root = record {
  pairs = no_node ∷ no_node ∷ no_node ∷ no_node ∷ no_node ∷ no_node ∷ a ∷ b ∷ c ∷ d ∷ [];
  parents = parents;
  heights = heights;
  root = root;
}

-- "3=(0,1) at 1, 4=(3,2) at 2, tips at 0", but at these heights
abbrev pub F-at : Float → Float → Float → Float → Float → Tree
F-at h0 h1 h2 h3 h4 = five 0 1 3 2 (3 ∷ 3 ∷ 4 ∷ 4 ∷ no_node ∷ []) (h0 ∷ h1 ∷ h2 ∷ h3 ∷ h4 ∷ []) 4

abbrev pub F : Tree
F = F-at 0·0 0·0 0·0 1·0 2·0

-- "3=(2,1), 4=(3,0)"
abbrev pub exchanged : Tree
exchanged = five 2 1 3 0 (4 ∷ 3 ∷ 3 ∷ 4 ∷ no_node ∷ []) (0·0 ∷ 0·0 ∷ 0·0 ∷ 1·0 ∷ 2·0 ∷ []) 4

-- "3=(0,4), 4=(1,2), root 3", with tips 1 and 2 at other heights
abbrev pub slid_at : Float → Float → Tree
slid_at h1 h2 = five 0 4 1 2 (3 ∷ 4 ∷ 4 ∷ no_node ∷ 3 ∷ []) (0·0 ∷ h1 ∷ h2 ∷ 3·0 ∷ 2·0 ∷ []) 3

-- "3=(0,2), 4=(1,3)", with tips 1 and 2 and node 3 at other heights
abbrev pub grafted_at : Float → Float → Float → Tree
grafted_at h1 h2 h3 = five 0 2 1 3 (3 ∷ 4 ∷ 3 ∷ 4 ∷ no_node ∷ []) (0·0 ∷ h1 ∷ h2 ∷ h3 ∷ 2·0 ∷ []) 4

-- "4=(2,3) with 3 at 0"
abbrev pub flat : Tree
flat = five 0 1 2 3 (3 ∷ 3 ∷ 4 ∷ 4 ∷ no_node ∷ []) (0·0 ∷ 0·0 ∷ 0·0 ∷ 0·0 ∷ 2·0 ∷ []) 4

-- seven nodes: 4 = (a, b), 5 = (c, d) and 6 = (e, f), with the tips at 0 and the others at these heights
abbrev pub seven : ℕ → ℕ → ℕ → ℕ → ℕ → ℕ → List ℕ → Float → Float → Float → ℕ → Tree
seven a b c d e f parents h4 h5 h6 root = record {
  pairs = no_node ∷ no_node ∷ no_node ∷ no_node ∷ no_node ∷ no_node ∷ no_node ∷ no_node ∷ a ∷ b ∷ c ∷ d ∷ e ∷ f ∷ [];
  parents = parents;
  heights = 0·0 ∷ 0·0 ∷ 0·0 ∷ 0·0 ∷ h4 ∷ h5 ∷ h6 ∷ [];
  root = root;
}

-- 4 = (0, 1) at 1, 5 = (2, 3) at 2, 6 = (4, 5) at 3; and 4 and 2 exchanged
abbrev pub paired : Tree
paired = seven 0 1 2 3 4 5 (4 ∷ 4 ∷ 5 ∷ 5 ∷ 6 ∷ 6 ∷ no_node ∷ []) 1·0 2·0 3·0 6

abbrev pub unpaired : Tree
unpaired = seven 0 1 4 3 2 5 (4 ∷ 4 ∷ 6 ∷ 5 ∷ 5 ∷ 6 ∷ no_node ∷ []) 1·0 2·0 3·0 6

-- 4 = (0, 1) at 1, 5 = (4, 2) at 2, 6 = (5, 3) at 3
abbrev pub comb : Tree
comb = seven 0 1 4 2 5 3 (4 ∷ 4 ∷ 5 ∷ 6 ∷ 5 ∷ 6 ∷ no_node ∷ []) 1·0 2·0 3·0 6

-- of it with 4 at 2.5: 4 = (0, 5), 5 = (1, 2), 6 = (4, 3); and 4 = (0, 3), 5 = (1, 2), 6 = (5, 4)
abbrev pub raised : Tree
raised = seven 0 5 1 2 4 3 (4 ∷ 5 ∷ 5 ∷ 6 ∷ 6 ∷ 4 ∷ no_node ∷ []) 2·5 2·0 3·0 6

abbrev pub crossed : Tree
crossed = seven 0 3 1 2 5 4 (4 ∷ 5 ∷ 5 ∷ 4 ∷ 6 ∷ 6 ∷ no_node ∷ []) 2·5 2·0 3·0 6

-- 4 = (1, 2) at 1, 5 = (4, 3) at 2, 6 = (0, 5) at 3; and 4 = (6, 2), 6 = (0, 1) at 1, root 5
abbrev pub outer : Tree
outer = seven 1 2 4 3 0 5 (6 ∷ 4 ∷ 4 ∷ 5 ∷ 5 ∷ 6 ∷ no_node ∷ []) 1·0 2·0 3·0 6

abbrev pub sunk : Tree
sunk = seven 6 2 4 3 0 1 (6 ∷ 6 ∷ 4 ∷ 5 ∷ 5 ∷ no_node ∷ 4 ∷ []) 1·0 2·0 1·0 5

-- the factor of document 01's example, and the root's height after it
abbrev pub example : Float
example = of_bits binary64 0x3fe0_0000_0000_7800

abbrev pub example_root : Float
example_root = of_bits binary64 0x3ff0_0000_0000_7800

-- ---- choices

abbrev pub height_of : ℕ → Float → Choice NodeHeight
height_of k x = record { node = k; height = x }

abbrev pub slide : ℕ → Float → ℕ → Choice SubtreeSlide
slide i x index = record { node = i; height = x; index = index }

abbrev pub narrow : ℕ → Bool → Choice NarrowExchange
narrow g coin = record { node = g; coin = coin }

abbrev pub wide : ℕ → ℕ → Choice WideExchange
wide i j = record { i = i; j = j }

abbrev pub wilson : ℕ → ℕ → Float → Choice WilsonBalding
wilson i j x = record { i = i; j = j; height = x }

-- ---- what a row says

-- an accepted tree, and what a choice makes of it
pub record Row (m : Reversible) (t : Tree) (c : Choice m) (u : Tree) (r : Ratio) : Type 0 where
  pub accepted : Accepted t
  pub makes : Makes m t c u r

-- an accepted tree, and a choice that is listed and declined
pub record Declined (m : Reversible) (t : Tree) (c : Choice m) : Type 0 where
  pub accepted : Accepted t
  pub listed : Listed (nodes_of t.pairs) m t c
  pub declined : declines (nodes_of t.pairs) m t c ≡ true

-- an accepted tree, and a choice that is not listed
pub record Unlisted (m : Reversible) (t : Tree) (c : Choice m) : Type 0 where
  pub accepted : Accepted t
  pub unlisted : Listed (nodes_of t.pairs) m t c → ⊥

-- ---- how a row is told

-- by tests
pub row : {m : Reversible} {t : Tree} {c : Choice m} {u : Tree} {r : Ratio} → Accepted t → T (lists (nodes_of t.pairs) m t c)
    → declines (nodes_of t.pairs) m t c ≡ false → made (nodes_of t.pairs) m t c ≡ u → ratio_of (nodes_of t.pairs) m t c ≡ r → Row m t c u r
row {m} {t} {c} {u} {r} a l f e q = record {
  accepted = a;
  makes = record { listed = (lists_agree (nodes_of t.pairs) m t c).passed l; free = f; tree = e; ratio = q };
}

pub declined-row : {m : Reversible} {t : Tree} {c : Choice m} → Accepted t → T (lists (nodes_of t.pairs) m t c)
    → declines (nodes_of t.pairs) m t c ≡ true → Declined m t c
declined-row {m} {t} {c} a l d = record { accepted = a; listed = (lists_agree (nodes_of t.pairs) m t c).passed l; declined = d }

pub unlisted-row : {m : Reversible} {t : Tree} {c : Choice m} → Accepted t → lists (nodes_of t.pairs) m t c ≡ false → Unlisted m t c
unlisted-row {m} {t} {c} a e = record { accepted = a; unlisted = λ l. subst T e ((lists_agree (nodes_of t.pairs) m t c).passes l) }
