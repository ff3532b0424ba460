-- The five reversible moves as one: a move's choices, what it lists, when it declines, what a choice makes of a tree and with which ratio
-- (Rules, move by move). Definitions only. Assumes nothing.
use Rattle.std.specs.Prelude.{◌≡◌, Bool, false, ℕ, Float}
use Rattle.answer.specs.declared.Ratio.{Ratio}
use Rattle.answer.specs.declared.Ratio.TheVariants.{Even}
use Rattle.tree.specs.Tree.{Tree, nodes_of}
use Rattle.rules.specs.Rules as Rules

-- the moves of demand 3, in its order
pub data Reversible : Type 0 where
  NodeHeight SubtreeSlide NarrowExchange WideExchange WilsonBalding : Reversible

-- "Choices are the nodes, heights, index and side that a line names, drawn or not"
abbrev pub Choice : Reversible → Type 0
Choice NodeHeight = record { node : ℕ; height : Float }
Choice SubtreeSlide = record { node : ℕ; height : Float; index : ℕ }
Choice NarrowExchange = record { node : ℕ; coin : Bool }
Choice WideExchange = record { i : ℕ; j : ℕ }
Choice WilsonBalding = record { i : ℕ; j : ℕ; height : Float }

-- the choice is in the lists of the move's line, on a tree of n nodes
abbrev pub Listed : ℕ → (m : Reversible) → Tree → Choice m → Type 0
Listed n NodeHeight t c = Rules.NodeHeightListed n t c.node c.height
Listed n SubtreeSlide t c = Rules.SlideListed n t c.node c.height c.index
Listed n NarrowExchange t c = Rules.NarrowListed n t c.node
Listed n WideExchange t c = Rules.WideListed n t c.i c.j
Listed n WilsonBalding t c = Rules.WilsonListed n t c.i c.j c.height

-- the move is declined
abbrev pub declines : ℕ → (m : Reversible) → Tree → Choice m → Bool
declines n NodeHeight t c = Rules.node_height_declines n
declines n SubtreeSlide t c = Rules.slide_declines n t c.node c.height
declines n NarrowExchange t c = Rules.narrow_declines n t c.node
declines n WideExchange t c = Rules.wide_declines t c.i c.j
declines n WilsonBalding t c = Rules.wilson_declines t c.i c.j

-- the tree that is made
abbrev pub made : ℕ → (m : Reversible) → Tree → Choice m → Tree
made n NodeHeight t c = Rules.height_moved t c.node c.height
made n SubtreeSlide t c = Rules.slid n t c.node c.height c.index
made n NarrowExchange t c = Rules.narrowed n t c.node c.coin
made n WideExchange t c = Rules.widened n t c.i c.j
made n WilsonBalding t c = Rules.wilson_moved n t c.i c.j c.height

-- "NodeHeight, WideExchange and tip ages are even"
abbrev pub ratio_of : ℕ → (m : Reversible) → Tree → Choice m → Ratio
ratio_of n NodeHeight t c = Even
ratio_of n SubtreeSlide t c = Rules.slide_ratio n t c.node c.height c.index
ratio_of n NarrowExchange t c = Rules.narrow_ratio n t c.node c.coin
ratio_of n WideExchange t c = Even
ratio_of n WilsonBalding t c = Rules.wilson_ratio t c.i c.j

-- ""Admits" means: within these lists and not declined": the move m admits the choice c on t, and makes of t the tree u with the ratio r
pub record Makes (m : Reversible) (t : Tree) (c : Choice m) (u : Tree) (r : Ratio) : Type 0 where
  pub listed : Listed (nodes_of t.pairs) m t c
  pub free : declines (nodes_of t.pairs) m t c ≡ false
  pub tree : made (nodes_of t.pairs) m t c ≡ u
  pub ratio : ratio_of (nodes_of t.pairs) m t c ≡ r
