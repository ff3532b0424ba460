-- The text of a state, and which states have one: those that a state file can hold. Definitions only. Assumes nothing.
use Rattle.std.specs.Prelude.{◌≡◌, List, ◌++◌, ℕ, ◌-◌, ◌^◌, ◌≤◌, ◌<◌, T, length, get_or, Float}
use Rattle.std.specs.Float.{nan, binary64}
use Rattle.std.specs.Float.Ieee.{fits}
use Rattle.text.specs.Text.{bytes, decimal_text}
use Rattle.forms.specs.Forms.{most_nodes, most_elsewhere, name_of}
use Rattle.forms.specs.declared.Kind.{Kind}
use Rattle.forms.specs.declared.Kind.TheVariants.{NodeHeight, SubtreeSlide, NarrowExchange, WideExchange, WilsonBalding, RootScale, TreeScale}
use Rattle.tree.specs.Tree.{nodes_of, tips_of}
use Rattle.moves.specs.Moves.{Move, node_height, subtree_slide, narrow_exchange, wide_exchange, wilson_balding, root_scale, tree_scale}
use Rattle.notation.specs.Notation.{line, bits_text, state_text, pairs_text, heights_text}
use Rattle.statefile.specs.StateFile.{State, real, slots, with_tips, nodes_for}

-- ---- a move

abbrev pub kind_of : Move → Kind
kind_of node_height = NodeHeight
kind_of (subtree_slide node step) = SubtreeSlide
kind_of narrow_exchange = NarrowExchange
kind_of wide_exchange = WideExchange
kind_of wilson_balding = WilsonBalding
kind_of (root_scale tuning) = RootScale
kind_of (tree_scale tuning) = TreeScale

-- "Node and tuning are 0 (tuning 16 zeros) when unused"
abbrev pub node_of : Move → ℕ
node_of node_height = 0
node_of (subtree_slide node step) = node
node_of narrow_exchange = 0
node_of wide_exchange = 0
node_of wilson_balding = 0
node_of (root_scale tuning) = 0
node_of (tree_scale tuning) = 0

-- "A slide's step goes under tuning"
abbrev pub tuning_of : Move → Float
tuning_of node_height = real 0
tuning_of (subtree_slide node step) = step
tuning_of narrow_exchange = real 0
tuning_of wide_exchange = real 0
tuning_of wilson_balding = real 0
tuning_of (root_scale tuning) = tuning
tuning_of (tree_scale tuning) = tuning

-- ---- the text

-- "edition, draws, state"
unfoldable pub supplied_text : ℕ → List ℕ → List ℕ
supplied_text draws words = line (bytes "edition=") (bytes "1") ++ line (bytes "draws=") (decimal_text draws) ++ line (bytes "state=") (state_text words)

-- "move, node, tuning"
unfoldable pub asked_text : Move → List ℕ
asked_text move =
    line (bytes "move=") (name_of (kind_of move)) ++ line (bytes "node=") (decimal_text (node_of move)) ++ line (bytes "tuning=") (bits_text (tuning_of move))

-- "tips": those of as many nodes as there are pairs
abbrev pub tips_text : List ℕ → List ℕ
tips_text pairs = line (bytes "tips=") (decimal_text (tips_of (nodes_of pairs)))

-- "tips, one pair per internal node, one height per node"
unfoldable pub nodes_text : List ℕ → List Float → List ℕ
nodes_text pairs heights = tips_text pairs ++ pairs_text pairs ++ heights_text heights

unfoldable pub file_text : State → List ℕ
file_text st = supplied_text st.allowance st.words ++ asked_text st.move ++ nodes_text st.pairs st.heights

-- ---- what a file can hold; a list read past its end gives 0, or nan, which are within every limit

-- words of 64 bits, four of them
pub record FourWords (words : List ℕ) : Type 0 where
  pub four : length words ≡ 4
  pub each : (i : ℕ) → get_or words i 0 < 2 ^ 64

-- an f64
abbrev pub is_real : Float → Type 0
is_real x = T (fits binary64 x)

-- the marks of so many tips, then the pairs of the internal nodes, and a height for each node
pub record FileTree (pairs : List ℕ) (heights : List Float) : Type 0 where
  pub tips : ℕ
  pub few : tips ≤ most_elsewhere
  pub internal : List (ℕ × ℕ)
  pub count : length internal ≡ tips - 1
  pub are : pairs ≡ with_tips tips internal
  pub small : (i : ℕ) → get_or (slots internal) i 0 ≤ most_nodes
  pub nodes : length heights ≡ nodes_for tips
  pub dated : (i : ℕ) → is_real (get_or heights i nan)

-- the states that files hold: none has "a number over 65,535 in a pair or node line or over 2^32 − 1 elsewhere"
pub record Writable (st : State) : Type 0 where
  pub draws : st.allowance ≤ most_elsewhere
  pub generator : FourWords st.words
  pub node : node_of st.move ≤ most_nodes
  pub tuning : is_real (tuning_of st.move)
  pub tree : FileTree st.pairs st.heights
