-- What each tree move draws, in the order of "the Rust functions of the same names", and what it makes of it: the draws, the test of what is
-- declined, and the rule of rules/Rules. Definitions only. Assumes nothing.
use Rattle.std.specs.Prelude.{Bool, not, ◌&&◌, cond, ℕ, ltb, eqb, length, Float}
use Rattle.std.specs.Float.{binary64}
use Rattle.std.specs.Float.Ieee.{add, mul}
use Rattle.std.specs.Float.Ieee.Scale.{finite}
use Rattle.answer.specs.declared.Ratio.TheVariants.{Even}
use Rattle.random.specs.Draw.{Number, until, below, Draw, return, draw, ◌>>=◌, uniform, coin}
use Rattle.real.specs.Real.{max_of}
use Rattle.tree.specs.Tree.{Tree, nodes_of, inner, parent, height, sibling}
use Rattle.rules.specs.Rules as Rules
use Rattle.rules.specs.Rules.{one_internal, floor}
use Rattle.calls.specs.Call.{Reply, makes, not_finite, Outcome, declined, moved}
use Rattle.calls.specs.Draws.{non_root, internal, scaler, drawn_height, least}

-- ---- limits

-- "slide node below n and not the root; step [...] finite"
abbrev pub slidable : Tree → ℕ → Float → Bool
slidable t i step = ltb i (nodes_of t.pairs) && not (eqb i t.root) && finite step

-- ---- NodeHeight, t being the tree here and below

-- "an internal node other than the root"
unfoldable pub non_root_internal : ℕ → ℕ → Number
non_root_internal n root = until (λ k. not (eqb k root)) (internal n)

-- "a height from its taller child's to its parent's"
unfoldable pub placing : Tree → ℕ → Draw (Reply Outcome)
placing t k = drawn_height k (floor t k) (height t (parent t k)) (λ x. moved (Rules.height_moved t k x) Even)

-- a node, then its height
unfoldable pub node_height : Tree → Draw (Reply Outcome)
node_height t =
    let n = nodes_of t.pairs in
    cond (Rules.node_height_declines n) (return (makes declined)) (do
      k ← draw (non_root_internal n t.root)
      placing t k)

-- ---- SubtreeSlide

-- the node of a slide, and the two uniforms of the step
pub record Start : Type 0 where
  pub node : ℕ
  pub first : Float
  pub second : Float

-- "the first gives the node and two uniforms, or a 6"
unfoldable pub slide_start : Tree → Draw (Reply Start)
slide_start t = do
  i ← draw (non_root (nodes_of t.pairs) t.root)
  u ← uniform
  v ← uniform
  return (makes (record { node = i; first = u; second = v }))

-- P's new height
abbrev pub slide_height : Tree → ℕ → Float → Float
slide_height t i step = add binary64 (height t (parent t i)) step

-- the slide's choice: what it makes, and with which ratio
abbrev pub slides : ℕ → Tree → ℕ → Float → ℕ → Outcome
slides n t i x index = moved (Rules.slid n t i x index) (Rules.slide_ratio n t i x index)

-- to a finite height: the branch is "picked by index" where one is needed
unfoldable pub slide_at : ℕ → Float → Tree → Draw (Reply Outcome)
slide_at i x t =
    let n = nodes_of t.pairs in
    cond (Rules.slide_declines n t i x) (return (makes declined)) (cond (Rules.lowers t i x) (do
      index ← draw (below (length (Rules.branches n t x (sibling t i))))
      return (makes (slides n t i x index))) (return (makes (slides n t i x 0))))

-- "the second takes node and step"
unfoldable pub subtree_slide : ℕ → Float → Tree → Draw (Reply Outcome)
subtree_slide i step t = let x = slide_height t i step in cond (not (finite x)) (return (not_finite (parent t i))) (slide_at i x t)

-- ---- NarrowExchange

-- "an internal node with an internal child"
unfoldable pub grandparent : ℕ → Tree → Number
grandparent n t = until (Rules.grand n t) (internal n)

-- "then its taller child (the first if equal) and one side of that"
unfoldable pub narrow_under : ℕ → Tree → ℕ → Draw (Reply Outcome)
narrow_under n t g =
    cond (Rules.narrow_declines n t g) (return (makes declined)) (do
      side ← coin
      return (makes (moved (Rules.narrowed n t g side) (Rules.narrow_ratio n t g side))))

-- a grandparent, then a side
unfoldable pub narrow_exchange : Tree → Draw (Reply Outcome)
narrow_exchange t =
    let n = nodes_of t.pairs in
    cond (one_internal n) (return (makes declined)) (do
      g ← draw (grandparent n t)
      narrow_under n t g)

-- ---- WideExchange

-- a non-root node other than i
unfoldable pub apart : ℕ → ℕ → ℕ → Number
apart n root i = until (λ j. not (eqb j i)) (non_root n root)

-- "distinct non-root i, j"
unfoldable pub wide_exchange : Tree → Draw (Reply Outcome)
wide_exchange t =
    let n = nodes_of t.pairs in do
      i ← draw (non_root n t.root)
      j ← draw (apart n t.root i)
      return (makes (cond (Rules.wide_declines t i j) declined (moved (Rules.widened n t i j) Even)))

-- ---- WilsonBalding

-- i and j with p's new height: what they make, and with which ratio
abbrev pub wilsons : Tree → ℕ → ℕ → Float → Outcome
wilsons t i j x = moved (Rules.wilson_moved (nodes_of t.pairs) t i j x) (Rules.wilson_ratio t i j)

-- "Height from max(h(i), h(j)) to h(q)"
abbrev pub wilson_height : Tree → ℕ → ℕ → Draw (Reply Outcome)
wilson_height t i j = drawn_height (parent t i) (max_of (height t i) (height t j)) (height t (parent t j)) (wilsons t i j)

-- "j other than i that is the root or has a parent q taller than i"
unfoldable pub hosting : Tree → ℕ → ℕ → Bool
hosting t i j = not (eqb j i) && Rules.hosts t i j

-- one of n such nodes
unfoldable pub host : ℕ → Tree → ℕ → Number
host n t i = until (hosting t i) (below n)

-- the move when its nodes are drawn
unfoldable pub onto : Tree → ℕ → ℕ → Draw (Reply Outcome)
onto t i j = cond (Rules.wilson_declines t i j) (return (makes declined)) (wilson_height t i j)

-- "non-root i with parent p", then j, then the height
unfoldable pub wilson_balding : Tree → Draw (Reply Outcome)
wilson_balding t =
    let n = nodes_of t.pairs in do
      i ← draw (non_root n t.root)
      j ← draw (host n t i)
      onto t i j

-- ---- RootScale

-- the root's height times f; 7 where that is not finite
unfoldable pub root_scale : Float → Tree → Draw (Reply Outcome)
root_scale s t = do
  u ← uniform
  let f = scaler s u in
      return (cond (not (finite (Rules.root_height t f))) (not_finite t.root) (makes (cond (Rules.root_scale_declines t f) declined (moved (Rules.root_scaled t f) (Rules.root_scale_ratio f)))))

-- ---- TreeScale

-- an internal node's height times f is not finite
abbrev pub overflows : ℕ → Tree → Float → ℕ → Bool
overflows n t f k = inner n k && not (finite (mul binary64 (height t k) f))

-- all internal heights times f; 7 for the "lowest node whose new height is not finite"
unfoldable pub tree_scale : Float → Tree → Draw (Reply Outcome)
tree_scale s t =
    let n = nodes_of t.pairs in do
      u ← uniform
      let f = scaler s u in
          let k = least (overflows n t f) n in
          return (cond (ltb k n) (not_finite k) (makes (moved (Rules.tree_scaled n t f) (Rules.tree_scale_ratio n f))))
