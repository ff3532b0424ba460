-- The text of an answer, as document 01 has the listing print it, and how it is handed over in a lent slice. Definitions only. Assumes nothing.
use Rattle.std.specs.Prelude.{cond, List, ◌++◌, ℕ, ltb, length, drop, Float}
use Rattle.answer.specs.declared.Refusal.{Refusal}
use Rattle.answer.specs.declared.Ratio.{Ratio}
use Rattle.answer.specs.declared.Answer.{Answer}
use Rattle.answer.specs.declared.Answer.TheVariants as Answers
use Rattle.answer.specs.Answers.{number_of, detail_of}
use Rattle.random.specs.declared.Random.{Random}
use Rattle.random.specs.Generator.{state_of}
use Rattle.calls.specs.Call.{Called}
use Rattle.text.specs.Text.{bytes, decimal_text}
use Rattle.notation.specs.Notation.{line, comma, state_text, ratio_text, pairs_text, heights_text}

-- ---- answers

-- "draws made, state after"
unfoldable pub drawn_text : ℕ → Random → List ℕ
drawn_text draws g = line (bytes "draws=") (decimal_text draws) ++ line (bytes "state=") (state_text (state_of g))

-- "ratio kind with f and k, root"
unfoldable pub odds_text : Ratio → ℕ → List ℕ
odds_text ratio root = line (bytes "ratio=") (ratio_text ratio) ++ line (bytes "root=") (decimal_text root)

-- "pairs, heights"
unfoldable pub tree_text : List ℕ → List Float → List ℕ
tree_text pairs heights = pairs_text pairs ++ heights_text heights

-- "a refusal prints `answer=refused,number,detail` alone"
unfoldable pub refused_text : Refusal → List ℕ
refused_text why = line (bytes "answer=") (comma (bytes "refused") (comma (decimal_text (number_of why)) (decimal_text (detail_of why))))

-- "answer, draws made, state after, ratio kind with f and k, root, pairs, heights"; "Declined prints the first three lines"
unfoldable pub answer_text : Answer → Random → List ℕ → List Float → List ℕ
answer_text (Answers.Moved m) g pairs heights =
    line (bytes "answer=") (bytes "moved") ++ drawn_text m.draws g ++ odds_text m.ratio m.root ++ tree_text pairs heights
answer_text (Answers.Declined draws) g pairs heights = line (bytes "answer=") (bytes "declined") ++ drawn_text draws g
answer_text (Answers.Refused why) g pairs heights = refused_text why

-- the text of what a call leaves
abbrev pub called_text : Called → List ℕ
called_text c = answer_text c.answer c.random c.pairs c.heights

-- ---- a text in a lent slice

-- how many bytes were written, and the slice
pub record Delivery : Type 0 where
  pub count : ℕ
  pub out : List ℕ

abbrev pub delivery : ℕ → List ℕ → Delivery
delivery count out = record { count = count; out = out }

-- the text at the start of the slice, the rest being as it was; or 0, with nothing written, where the slice is too short
unfoldable pub delivered : List ℕ → List ℕ → Delivery
delivered out text = cond (ltb (length out) (length text)) (delivery 0 out) (delivery (length text) (text ++ drop (length text) out))
