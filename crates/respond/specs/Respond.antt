-- What a state file is answered: the text of its move's call, or of the refusal. Definitions only. Assumes nothing.
use Rattle.std.specs.Prelude.{cond, List, ℕ, ltb, length}
use Rattle.answer.specs.declared.Refusal.TheVariants.{Line}
use Rattle.random.specs.Generator.{from_state}
use Rattle.tree.specs.New.{New, refused, made, new_tree}
use Rattle.moves.specs.Moves.{move_call}
use Rattle.statefile.specs.StateFile.{State, Reading, faulty, read, state_file}
use Rattle.report.specs.Report.{refused_text, called_text}

-- the move's call on the tree that the pairs and heights make: "1 to 5, then 6 to 8 as the move meets them"
unfoldable pub tree_reply : State → New → List ℕ
tree_reply st (refused why) = refused_text why
tree_reply st (made t) = called_text (move_call st.move t (from_state st.words) st.allowance)

abbrev pub state_reply : State → List ℕ
state_reply st = tree_reply st (new_tree st.pairs st.heights)

-- 9, "first line not of the file's form", comes before these
unfoldable pub read_reply : Reading → List ℕ
read_reply (faulty k) = refused_text (Line k)
read_reply (read st) = state_reply st

-- "0 for over 131,072 bytes, in the listing program over 65,536": the limit
unfoldable pub file_reply : ℕ → List ℕ → List ℕ
file_reply limit file = cond (ltb limit (length file)) (refused_text (Line 0)) (read_reply (state_file file))
