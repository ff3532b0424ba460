-- How long the texts of an answer are, and how a text that fits is handed over (`deliver-short`, `deliver-whole`). Assumes nothing.
use Rattle.std.specs.Prelude.{◌≡◌, List, ℕ, ◌+◌, ◌*◌, ◌≤◌, ◌<◌, length, Float}
use Rattle.std.proofs.Common.{arith, length-append, lt-ltb, le-ltb}
use Rattle.answer.specs.declared.Refusal.{Refusal}
use Rattle.answer.specs.declared.Ratio.{Ratio}
use Rattle.answer.specs.declared.Moved.{Moved}
use Rattle.answer.specs.declared.Answer.TheVariants as Answers
use Rattle.answer.specs.Answers.{number_of, detail_of}
use Rattle.random.specs.declared.Random.{Random}
use Rattle.text.specs.Text.{decimal_text}
use Rattle.print.specs.Writing.{written, write}
use Rattle.print.specs.WritingLaws.{write-whole}
use Rattle.notation.specs.Notation.{ratio_text, pairs_text}
use Rattle.notation.specs.LengthLaws.{length-comma, length-line, length-state, length-heights}
use Rattle.report.specs.Report.{drawn_text, odds_text, tree_text, refused_text, answer_text, delivery, delivered}

-- ---- lengths

pub length-drawn : (draws : ℕ) (g : Random) → length (drawn_text draws g) ≡ 81 + length (decimal_text draws)
unfolding drawn_text
length-drawn draws g = simp (length-append, length-line, length-state) (omega arith)

pub length-odds : (ratio : Ratio) (root : ℕ) → length (odds_text ratio root) ≡ 13 + length (ratio_text ratio) + length (decimal_text root)
unfolding odds_text
length-odds ratio root = simp (length-append, length-line) (omega arith)

pub length-tree : (pairs : List ℕ) (heights : List Float) → length (tree_text pairs heights) ≡ length (pairs_text pairs) + 24 * length heights
unfolding tree_text
length-tree pairs heights = simp (length-append, length-heights)

pub length-refused : (why : Refusal) → length (refused_text why) ≡ 17 + length (decimal_text (number_of why)) + length (decimal_text (detail_of why))
unfolding refused_text
length-refused why = simp (length-line, length-comma) (omega arith)

pub length_moved : (m : Moved) (g : Random) (pairs : List ℕ) (heights : List Float)
    → length (answer_text (Answers.Moved m) g pairs heights) ≡ 94 + length (decimal_text m.draws) + length (odds_text m.ratio m.root) + length (tree_text pairs heights)
unfolding answer_text
length_moved m g pairs heights = simp (length-append, length-line, length-drawn) (omega arith)

pub length-declined : (draws : ℕ) (g : Random) (pairs : List ℕ) (heights : List Float)
    → length (answer_text (Answers.Declined draws) g pairs heights) ≡ 97 + length (decimal_text draws)
unfolding answer_text
length-declined draws g pairs heights = simp (length-append, length-line, length-drawn) (omega arith)

-- ---- a text of n bytes in a slice

module _ (out text : List ℕ) (n : ℕ) (l : n ≡ length text) where
  pub deliver-short : length out < n → delivery 0 out ≡ delivered out text
  unfolding delivered
  deliver-short h = rw (lt-ltb (length out) (length text) (omega arith))

  pub deliver-whole : n ≤ length out → (o : List ℕ) (r : ℕ) → written o r ≡ write (written out 0) text → delivery r o ≡ delivered out text
  unfolding delivered
  deliver-whole h o r e =
      let f = write-whole out text o r (omega arith) e in
      rw (le-ltb (length out) (length text) (omega arith)) (λ i. delivery (f i).at (f i).bytes)
