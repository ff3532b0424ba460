-- The state file: what it holds, and how it is read. Definitions only. Assumes nothing.
use Rattle.std.specs.Prelude.{List, [], ◌∷◌, ◌++◌, map, ℕ, ◌-◌, ◌*◌, replicate, Float}
use Rattle.std.specs.Float.{binary64}
use Rattle.std.specs.Float.Ieee.{of_bits}
use Rattle.tree.specs.Tree.{no_node}
use Rattle.moves.specs.Moves as Moves
use Rattle.moves.specs.Moves.{Move}
use Rattle.statefile.specs.Lines.{Found, wrong, found, Reader, return, ◌>>=◌, line, each, end}
use Rattle.forms.specs.Forms.{edition_line, draws_line, state_line, move_line, node_line, tuning_line, tips_line, pair_line, height_line}
use Rattle.forms.specs.declared.Words.{Words}
use Rattle.statefile.specs.declared.Supplied.{Supplied}
use Rattle.statefile.specs.declared.Asked.{Asked}
use Rattle.statefile.specs.declared.Head.{Head}
use Rattle.forms.specs.declared.Kind.{Kind}
use Rattle.forms.specs.declared.Kind.TheVariants.{NodeHeight, SubtreeSlide, NarrowExchange, WideExchange, WilsonBalding, RootScale, TreeScale}

-- ---- what a file holds

-- a tree as it is given
pub record Nodes : Type 0 where
  pub pairs : List ℕ
  pub heights : List Float

-- a call of a move: its allowance, the generator's words, the move with its parameters, and the tree's pairs and heights
pub record State : Type 0 where
  pub allowance : ℕ
  pub words : List ℕ
  pub move : Move
  pub pairs : List ℕ
  pub heights : List Float

-- f64 by their bits
abbrev pub real : ℕ → Float
real w = of_bits binary64 w

abbrev pub words_of : Words → List ℕ
words_of w = w.a ∷ w.b ∷ w.c ∷ w.d ∷ []

-- a move of a kind, with its node and its tuning, or its step
abbrev pub move_of : Kind → ℕ → Float → Move
move_of NodeHeight node tuning = Moves.node_height
move_of SubtreeSlide node step = Moves.subtree_slide node step
move_of NarrowExchange node tuning = Moves.narrow_exchange
move_of WideExchange node tuning = Moves.wide_exchange
move_of WilsonBalding node tuning = Moves.wilson_balding
move_of RootScale node tuning = Moves.root_scale tuning
move_of TreeScale node tuning = Moves.tree_scale tuning

-- so many tips have so many nodes: "tips 0 makes 0 nodes"
abbrev pub nodes_for : ℕ → ℕ
nodes_for tips = 2 * tips - 1

-- the numbers of pairs, one pair after the other
unfoldable pub slots : List (ℕ × ℕ) → List ℕ
slots [] = []
slots ((a, b) ∷ l) = a ∷ b ∷ slots l

-- "65,535 twice marks a tip"; tips come first
abbrev pub with_tips : ℕ → List (ℕ × ℕ) → List ℕ
with_tips tips l = replicate (2 * tips) no_node ++ slots l

-- what is supplied and what is asked, with a tree's pairs and heights
abbrev pub state_in : Supplied → Asked → List ℕ → List Float → State
state_in supplied asked pairs heights = record {
  allowance = supplied.draws;
  words = words_of supplied.words;
  move = move_of asked.kind asked.node asked.tuning;
  pairs = pairs;
  heights = heights;
}

-- what stands before the tree, with a tree
abbrev pub state_of : Head → Nodes → State
state_of h t = state_in h.supplied h.asked t.pairs t.heights

-- ---- how it is read

-- "edition, draws, state"
unfoldable pub supplied : Reader Supplied
supplied = do
  _ ← line edition_line
  draws ← line draws_line
  words ← line state_line
  return (record { draws = draws; words = words })

-- "move, node, tuning"
unfoldable pub asked : Reader Asked
asked = do
  kind ← line move_line
  node ← line (node_line kind)
  tuning ← line (tuning_line kind)
  return (record { kind = kind; node = node; tuning = real tuning })

-- those, and "tips"
unfoldable pub head : Reader Head
head = do
  supplied ← supplied
  asked ← asked
  tips ← line tips_line
  return (record { supplied = supplied; asked = asked; tips = tips })

-- "one pair per internal node, one height per node", and no more
unfoldable pub tree : ℕ → Reader Nodes
tree tips = do
  pairs ← each (tips - 1) pair_line
  heights ← each (nodes_for tips) height_line
  _ ← end
  return (record { pairs = with_tips tips pairs; heights = map real heights })

unfoldable pub state : Reader State
state = do
  h ← head
  t ← tree h.tips
  return (state_of h t)

-- what a file says, or the first line that is not of its form
pub data Reading : Type 0 where
  faulty : ℕ → Reading
  read : State → Reading

abbrev pub closed : Found State → Reading
closed (wrong k) = faulty k
closed (found a k s) = read a

-- "Lines count from 1"
unfoldable pub state_file : List ℕ → Reading
state_file s = closed (state 1 s)
