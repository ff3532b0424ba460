-- How long the parts of a state's text are. Assumes nothing.
use Rattle.std.specs.Prelude.{◌≡◌, List, ℕ, ◌+◌, ◌≤◌, length}
use Rattle.std.proofs.Common.{arith, length-append}
use Rattle.text.specs.Text.{decimal_text}
use Rattle.forms.specs.Forms.{name_of}
use Rattle.forms.specs.declared.Kind.{Kind}
use Rattle.forms.specs.declared.Kind.TheVariants.{NodeHeight, SubtreeSlide, NarrowExchange, WideExchange, WilsonBalding, RootScale, TreeScale}
use Rattle.tree.specs.Tree.{nodes_of, tips_of}
use Rattle.moves.specs.Moves.{Move}
use Rattle.notation.specs.Notation.{pairs_text, heights_text}
use Rattle.notation.specs.LengthLaws.{length-line, length-word, length-state}
use Rattle.statefile.specs.StateFile.{State}
use Rattle.statefile_text.specs.StateText.{kind_of, node_of, supplied_text, asked_text, tips_text, nodes_text, file_text}

pub names-few : (k : Kind) → length (name_of k) ≤ 14
names-few NodeHeight = omega arith
names-few SubtreeSlide = omega arith
names-few NarrowExchange = omega arith
names-few WideExchange = omega arith
names-few WilsonBalding = omega arith
names-few RootScale = omega arith
names-few TreeScale = omega arith

pub length-supplied : (draws : ℕ) (words : List ℕ) → length (supplied_text draws words) ≡ 91 + length (decimal_text draws)
unfolding supplied_text
length-supplied draws words = simp (length-append, length-line, length-state) (omega arith)

pub length-asked : (m : Move) → length (asked_text m) ≡ 36 + length (name_of (kind_of m)) + length (decimal_text (node_of m))
unfolding asked_text
length-asked m = simp (length-append, length-line, length-word) (omega arith)

pub length-tips : (pairs : List ℕ) → length (tips_text pairs) ≡ 6 + length (decimal_text (tips_of (nodes_of pairs)))
length-tips pairs = simp length-line (omega arith)

pub length-file : (st : State)
    → length (file_text st)
    ≡ length (supplied_text st.allowance st.words) + length (asked_text st.move) + length (tips_text st.pairs)
    + length (pairs_text st.pairs) + length (heights_text st.heights)
unfolding file_text nodes_text
length-file st = simp length-append (omega arith)
