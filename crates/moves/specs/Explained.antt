-- What a call's program may end in, move by move, along document 01's rules: a moved answer is an admitted choice with the tree and the ratio that it
-- makes (`Admitted`); a declined one has drawn nodes, or a factor, for which the rule declines, or has nothing to choose from (`Declined`); a 7 is
-- a new height that is not finite (`Overflows`), an 8 a drawn height outside its interval (`Strays`). Definitions only. Assumes nothing.
use Rattle.std.specs.Prelude.{◌≡◌, ◌≢◌, ◌⊎◌, true, false, ℕ, ◌+◌, ◌<◌, T, Float}
use Rattle.std.specs.Float.Ieee.Scale.{finite}
use Rattle.answer.specs.declared.Ratio.{Ratio}
use Rattle.real.specs.Real.{max_of}
use Rattle.tree.specs.Tree as Trees
use Rattle.tree.specs.Tree.{Tree, nodes_of, parent}
use Rattle.rules.specs.Rules as Rules
use Rattle.rules.specs.Rules.{one_internal, floor, within}
use Rattle.rules.specs.Moves as Reversibles
use Rattle.rules.specs.Moves.{Reversible, Choice, Makes}
use Rattle.calls.specs.Call.{Reply, makes, not_finite, outside, Outcome, declined, moved}
use Rattle.calls.specs.Chosen.{Factor, Between}
use Rattle.moves.specs.Programs.{slide_height, overflows}
use Rattle.moves.specs.Moves.{Move, node_height, subtree_slide, narrow_exchange, wide_exchange, wilson_balding, root_scale, tree_scale}

-- ---- what is drawn

-- NodeHeight's node: "an internal node other than the root"
pub record HeightNode (n : ℕ) (t : Tree) (k : ℕ) : Type 0 where
  pub node : k < n
  pub internal : n < k + k
  pub under : k ≢ t.root

-- WilsonBalding's nodes: "non-root i with parent p; j other than i that is the root or has a parent q taller than i"
pub record WilsonNodes (n : ℕ) (t : Tree) (i j : ℕ) : Type 0 where
  pub node_i : i < n
  pub node_j : j < n
  pub under_i : i ≢ t.root
  pub apart : j ≢ i
  pub host : T (Rules.hosts t i j)

-- ---- a move that was made

-- a choice of the move m that it admits on t, and that makes of t the tree u with the ratio r
pub record Admits (m : Reversible) (t u : Tree) (r : Ratio) : Type 0 where
  pub choice : Choice m
  pub makes : Makes m t choice u r

-- the slide's choice is of the node that was given, and of P's height with the step added
pub record Slides (i : ℕ) (step : Float) (t u : Tree) (r : Ratio) : Type 0 where
  pub index : ℕ
  pub makes : Makes Reversibles.SubtreeSlide t (record { node = i; height = slide_height t i step; index = index }) u r

-- a factor makes of t the tree u with the ratio r, and every new height is finite
pub record RootScales (s : Float) (t u : Tree) (r : Ratio) : Type 0 where
  pub factor : Float
  pub drawn : Factor s factor
  pub number : finite (Rules.root_height t factor) ≡ true
  pub free : Rules.root_scale_declines t factor ≡ false
  pub tree : Rules.root_scaled t factor ≡ u
  pub ratio : Rules.root_scale_ratio factor ≡ r

pub record TreeScales (s : Float) (t u : Tree) (r : Ratio) : Type 0 where
  pub factor : Float
  pub drawn : Factor s factor
  pub number : (k : ℕ) → k < nodes_of t.pairs → overflows (nodes_of t.pairs) t factor k ≡ false
  pub tree : Rules.tree_scaled (nodes_of t.pairs) t factor ≡ u
  pub ratio : Rules.tree_scale_ratio (nodes_of t.pairs) factor ≡ r

abbrev pub Admitted : Move → Tree → Tree → Ratio → Type 0
Admitted node_height t u r = Admits Reversibles.NodeHeight t u r
Admitted (subtree_slide i step) t u r = Slides i step t u r
Admitted narrow_exchange t u r = Admits Reversibles.NarrowExchange t u r
Admitted wide_exchange t u r = Admits Reversibles.WideExchange t u r
Admitted wilson_balding t u r = Admits Reversibles.WilsonBalding t u r
Admitted (root_scale s) t u r = RootScales s t u r
Admitted (tree_scale s) t u r = TreeScales s t u r

-- ---- a move that was declined

pub record NarrowDeclined (n : ℕ) (t : Tree) : Type 0 where
  pub node : ℕ
  pub listed : Rules.NarrowListed n t node
  pub declines : Rules.narrow_declines n t node ≡ true

pub record WideDeclined (n : ℕ) (t : Tree) : Type 0 where
  pub i : ℕ
  pub j : ℕ
  pub listed : Rules.WideListed n t i j
  pub declines : Rules.wide_declines t i j ≡ true

pub record WilsonDeclined (n : ℕ) (t : Tree) : Type 0 where
  pub i : ℕ
  pub j : ℕ
  pub listed : WilsonNodes n t i j
  pub declines : Rules.wilson_declines t i j ≡ true

pub record RootDeclined (s : Float) (t : Tree) : Type 0 where
  pub factor : Float
  pub drawn : Factor s factor
  pub declines : Rules.root_scale_declines t factor ≡ true

-- TreeScale never declines; with one internal node NodeHeight and NarrowExchange have nothing to choose from
abbrev pub Declined : Move → Tree → Type 0
Declined node_height t = Rules.node_height_declines (nodes_of t.pairs) ≡ true
Declined (subtree_slide i step) t = Rules.slide_declines (nodes_of t.pairs) t i (slide_height t i step) ≡ true
Declined narrow_exchange t = (one_internal (nodes_of t.pairs) ≡ true) ⊎ NarrowDeclined (nodes_of t.pairs) t
Declined wide_exchange t = WideDeclined (nodes_of t.pairs) t
Declined wilson_balding t = WilsonDeclined (nodes_of t.pairs) t
Declined (root_scale s) t = RootDeclined s t
Declined (tree_scale s) t = ⊥

-- ---- a height that is not finite

-- the factor takes the height of the root out of the finite ones
pub record RootOverflows (s : Float) (t : Tree) (k : ℕ) : Type 0 where
  pub node : k ≡ t.root
  pub factor : Float
  pub drawn : Factor s factor
  pub infinite : finite (Rules.root_height t factor) ≡ false

-- that of k, and of no node below it
pub record TreeOverflows (s : Float) (t : Tree) (k : ℕ) : Type 0 where
  pub node : k < nodes_of t.pairs
  pub factor : Float
  pub drawn : Factor s factor
  pub infinite : overflows (nodes_of t.pairs) t factor k ≡ true
  pub lowest : (j : ℕ) → j < k → overflows (nodes_of t.pairs) t factor j ≡ false

abbrev pub Overflows : Move → Tree → ℕ → Type 0
Overflows node_height t k = ⊥
Overflows (subtree_slide i step) t k = (k ≡ parent t i) × (finite (slide_height t i step) ≡ false)
Overflows narrow_exchange t k = ⊥
Overflows wide_exchange t k = ⊥
Overflows wilson_balding t k = ⊥
Overflows (root_scale s) t k = RootOverflows s t k
Overflows (tree_scale s) t k = TreeOverflows s t k

-- ---- a drawn height outside its interval

pub record HeightStrays (t : Tree) (k : ℕ) : Type 0 where
  pub drawn : HeightNode (nodes_of t.pairs) t k
  pub height : Float
  pub between : Between (floor t k) (Trees.height t (parent t k)) height
  pub outside : within (floor t k) height (Trees.height t (parent t k)) ≡ false

pub record WilsonStrays (t : Tree) (k : ℕ) : Type 0 where
  pub i : ℕ
  pub j : ℕ
  pub node : k ≡ parent t i
  pub drawn : WilsonNodes (nodes_of t.pairs) t i j
  pub height : Float
  pub between : Between (max_of (Trees.height t i) (Trees.height t j)) (Trees.height t (parent t j)) height
  pub outside : within (max_of (Trees.height t i) (Trees.height t j)) height (Trees.height t (parent t j)) ≡ false

abbrev pub Strays : Move → Tree → ℕ → Type 0
Strays node_height t k = HeightStrays t k
Strays (subtree_slide i step) t k = ⊥
Strays narrow_exchange t k = ⊥
Strays wide_exchange t k = ⊥
Strays wilson_balding t k = WilsonStrays t k
Strays (root_scale s) t k = ⊥
Strays (tree_scale s) t k = ⊥

-- ---- together

pub data Explained (m : Move) (t : Tree) : Reply Outcome → Type 0 where
  is_moved : {u : Tree} {r : Ratio} → Admitted m t u r → Explained m t (makes (moved u r))
  is_declined : Declined m t → Explained m t (makes declined)
  is_infinite : {k : ℕ} → Overflows m t k → Explained m t (not_finite k)
  is_outside : {k : ℕ} → Strays m t k → Explained m t (outside k)
