-- Document 01's example of a state file, and files that differ from it in a line, as rows of one statement on the definitions (`file-rows`).
-- Assumes nothing.
use Rattle.std.specs.Prelude.{◌≡◌, refl, List, [], ◌∷◌, ◌++◌, ℕ, ◌-◌, length, set, take, Float}
use Prim.Native.String.{String}
use Rattle.std.specs.Float.{nan}
use Rattle.std.specs.Float.Ieee.{of_bits}
use Rattle.moves.specs.Moves.{Move, root_scale, wide_exchange, subtree_slide}
use Rattle.text.specs.Text.{bytes, line_end}
use Rattle.text.specs.Rules as Rules
use Rattle.forms.specs.Forms as Forms
use Rattle.statefile.specs.Lines as Lines
use Rattle.statefile.specs.StateFile.{State, faulty, read, real, slots, supplied, asked, head, tree, state, state_file}

-- ---- files

-- the text of lines, "each ended by byte 10"
unfoldable pub file_of : List String → List ℕ
file_of [] = []
file_of (l ∷ ls) = bytes l ++ line_end ++ file_of ls

-- the lines before the tree, with draws, move, node, tuning and tips
abbrev pub head_lines : String → String → String → String → String → List String
head_lines draws move node tuning tips =
    "edition=1" ∷ draws ∷ "state=0000000000000001,0000000000000002,0000000000000003,0000000000000004" ∷ move ∷ node ∷ tuning ∷ tips ∷ []

-- the lines of tree F, the last of them given
abbrev pub tree_lines : String → List String
tree_lines last =
    "pair=0,1" ∷ "pair=3,2" ∷ "height=0000000000000000" ∷ "height=0000000000000000" ∷ "height=0000000000000000" ∷ "height=3ff0000000000000" ∷ last ∷ []

-- "Example, read from standard input by the listing program"
abbrev pub example : List String
example = head_lines "draws=9" "move=RootScale" "node=0" "tuning=3fe0000000000000" "tips=3" ++ tree_lines "height=4000000000000000"

-- the example with another line k
abbrev pub but : ℕ → String → List ℕ
but k l = file_of (set example (k - 1) l)

-- the example with another move, node and tuning
abbrev pub moving : String → String → String → List ℕ
moving move node tuning = file_of (head_lines "draws=9" move node tuning "tips=3" ++ tree_lines "height=4000000000000000")

-- tree F with an allowance and a move, the root at a height
abbrev pub on_f : ℕ → Move → Float → State
on_f allowance move height = record {
  allowance = allowance;
  words = 1 ∷ 2 ∷ 3 ∷ 4 ∷ [];
  move = move;
  pairs = 65535 ∷ 65535 ∷ 65535 ∷ 65535 ∷ 65535 ∷ 65535 ∷ 0 ∷ 1 ∷ 3 ∷ 2 ∷ [];
  heights = real 0 ∷ real 0 ∷ real 0 ∷ real 0x3ff0_0000_0000_0000 ∷ height ∷ [];
}

-- 0.5 and 2.0
abbrev pub half : Float
half = real 0x3fe0_0000_0000_0000

abbrev pub two : Float
two = real 0x4000_0000_0000_0000

-- ---- the rows

pub record FileRows : Type 0 where
  pub the_example : state_file (file_of example) ≡ read (on_f 9 (root_scale half) two)
  -- "Lines count from 1, a missing one under its own number; edition is 1"
  pub nothing : state_file [] ≡ faulty 1
  pub edition_2 : state_file (but 1 "edition=2") ≡ faulty 1
  pub last_line_open : state_file (take (length (file_of example) - 1) (file_of example)) ≡ faulty 14
  pub line_too_many : state_file (file_of example ++ line_end) ≡ faulty 15
  pub pair_missing : state_file (but 7 "tips=4") ≡ faulty 10
  pub pair_too_many : state_file (but 7 "tips=2") ≡ faulty 9
  -- "decimal without leading zeros"; "over 2^32 − 1 elsewhere"
  pub draws_most : state_file (but 2 "draws=4294967295") ≡ read (on_f 4294967295 (root_scale half) two)
  pub draws_over : state_file (but 2 "draws=4294967296") ≡ faulty 2
  pub draws_zero : state_file (but 2 "draws=0") ≡ read (on_f 0 (root_scale half) two)
  pub leading_zero : state_file (but 2 "draws=09") ≡ faulty 2
  pub no_digit : state_file (but 2 "draws=") ≡ faulty 2
  -- "16 lower-case hexadecimal digits"
  pub capital : state_file (but 3 "state=000000000000000A,0000000000000002,0000000000000003,0000000000000004") ≡ faulty 3
  pub three_words : state_file (but 3 "state=0000000000000001,0000000000000002,0000000000000003") ≡ faulty 3
  pub a_nan : state_file (but 14 "height=7ff0000000000001") ≡ read (on_f 9 (root_scale half) nan)
  -- "Moves: the seven tree moves above."
  pub other_move : state_file (but 4 "move=TipAge") ≡ faulty 4
  pub longer_name : state_file (but 4 "move=RootScales") ≡ faulty 4
  -- "A slide's step goes under tuning"; "Node and tuning are 0 (tuning 16 zeros) when unused, else that line is a 9"
  pub slide : state_file (moving "move=SubtreeSlide" "node=65535" "tuning=3fe0000000000000") ≡ read (on_f 9 (subtree_slide 65535 half) two)
  pub slide_over : state_file (moving "move=SubtreeSlide" "node=65536" "tuning=3fe0000000000000") ≡ faulty 5
  pub node_unused : state_file (but 5 "node=1") ≡ faulty 5
  pub wide : state_file (moving "move=WideExchange" "node=0" "tuning=0000000000000000") ≡ read (on_f 9 wide_exchange two)
  pub tuning_unused : state_file (moving "move=WideExchange" "node=0" "tuning=8000000000000000") ≡ faulty 6
  -- "a number over 65,535 in a pair"
  pub pair_most : state_file (but 8 "pair=0,65536") ≡ faulty 8
  -- "tips 0 makes 0 nodes"
  pub no_tips : state_file (file_of (head_lines "draws=9" "move=RootScale" "node=0" "tuning=3fe0000000000000" "tips=0"))
      ≡ read (record { allowance = 9; words = 1 ∷ 2 ∷ 3 ∷ 4 ∷ []; move = root_scale half; pairs = []; heights = [] })

-- each by computation
pub file-rows : FileRows
unfolding file_of slots supplied asked head tree state state_file Lines.return Lines.onward Lines.◌>>=◌ Lines.line Lines.each Lines.end
    Forms.entry Forms.next Forms.words Forms.one_of Forms.edition_line Forms.draws_line Forms.state_line Forms.move_line Forms.node_line Forms.tuning_line
    Forms.tips_line Forms.pair_line Forms.height_line
    Rules.return Rules.onward Rules.◌>>=◌ Rules.literal Rules.fixed Rules.value_of Rules.hex_after Rules.decimal_after Rules.decimal of_bits
file-rows = record {
  the_example = refl;
  nothing = refl;
  edition_2 = refl;
  last_line_open = refl;
  line_too_many = refl;
  pair_missing = refl;
  pair_too_many = refl;
  draws_most = refl;
  draws_over = refl;
  draws_zero = refl;
  leading_zero = refl;
  no_digit = refl;
  capital = refl;
  three_words = refl;
  a_nan = refl;
  other_move = refl;
  longer_name = refl;
  slide = refl;
  slide_over = refl;
  node_unused = refl;
  wide = refl;
  tuning_unused = refl;
  pair_most = refl;
  no_tips = refl;
}
