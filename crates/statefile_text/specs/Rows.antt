-- Texts of states, as rows of one statement on the definitions (`text-rows`): document 01's example, and one with a slide, one whose move takes neither
-- node nor tuning, and one without nodes. Assumes nothing.
use Rattle.std.specs.Prelude.{◌≡◌, refl, [], ◌∷◌}
use Rattle.std.specs.Float.Ieee.{of_bits, to_bits, size}
use Rattle.text.specs.Text.{digit, hex_text, decimal_in}
use Rattle.moves.specs.Moves.{root_scale, wide_exchange, subtree_slide}
use Rattle.notation.specs.Notation.{line, comma, state_text, pair_lines, pairs_text, heights_text}
use Rattle.statefile.specs.Rows.{file_of, head_lines, example, moving, on_f, half, two}
use Rattle.statefile_text.specs.StateText.{supplied_text, asked_text, nodes_text, file_text}

pub record TextRows : Type 0 where
  -- "Example, read from standard input by the listing program"
  pub the_example : file_text (on_f 9 (root_scale half) two) ≡ file_of example
  -- "A slide's step goes under tuning"
  pub slide : file_text (on_f 9 (subtree_slide 65535 half) two) ≡ moving "move=SubtreeSlide" "node=65535" "tuning=3fe0000000000000"
  -- "Node and tuning are 0 (tuning 16 zeros) when unused"
  pub wide : file_text (on_f 9 wide_exchange two) ≡ moving "move=WideExchange" "node=0" "tuning=0000000000000000"
  -- "tips 0 makes 0 nodes"
  pub no_tips : file_text (record { allowance = 9; words = 1 ∷ 2 ∷ 3 ∷ 4 ∷ []; move = root_scale half; pairs = []; heights = [] })
      ≡ file_of (head_lines "draws=9" "move=RootScale" "node=0" "tuning=3fe0000000000000" "tips=0")

-- each by computation
pub text-rows : TextRows
unfolding file_of supplied_text asked_text nodes_text file_text line comma state_text pair_lines pairs_text heights_text hex_text digit decimal_in to_bits of_bits size
text-rows = record { the_example = refl; slide = refl; wide = refl; no_tips = refl }
