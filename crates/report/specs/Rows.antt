-- Texts of answers, as rows of one statement on the definitions (`report-rows`): document 01's example, and one of each other kind. Assumes nothing.
use Rattle.std.specs.Prelude.{◌≡◌, refl, [], ◌∷◌, pos, negsuc}
use Rattle.std.specs.Float.Ieee.{of_bits, to_bits, size, round}
use Rattle.answer.specs.declared.Ratio.TheVariants.{Even, Counts, Lengths, Power}
use Rattle.answer.specs.declared.Refusal.TheVariants as Refusals
use Rattle.answer.specs.declared.Answer.TheVariants as Answers
use Rattle.random.specs.declared.Random.{Random}
use Rattle.random.specs.Generator.{from_state}
use Rattle.rules.specs.Samples.{0·0, 1·0, 2·0, F, F-at, example, example_root}
use Rattle.calls.specs.Call.{called_on}
use Rattle.text.specs.Text.{bytes, digit, hex_text, decimal_in}
use Rattle.notation.specs.Notation.{line, comma, signed_text, state_text, ratio_text, pair_lines, pairs_text, heights_text}
use Rattle.report.specs.Report.{drawn_text, odds_text, tree_text, refused_text, answer_text, called_text}

-- the example's generator after its draw
abbrev after_one : Random
after_one = from_state (7 ∷ 0 ∷ 0x40002 ∷ 0xc000_0000_0000 ∷ [])

pub record ReportRows : Type 0 where
  -- the example: "It prints (answer, draws made, state after, ratio kind with f and k, root, pairs, heights)"
  pub moved : called_text (called_on (Answers.Moved (record { root = 4; draws = 1; ratio = Power example (negsuc 0) })) after_one (F-at 0·0 0·0 0·0 1·0 example_root))
      ≡ bytes "answer=moved\ndraws=1\nstate=0000000000000007,0000000000000000,0000000000040002,0000c00000000000\nratio=power,3fe0000000007800,-1\nroot=4\npair=0,1\npair=3,2\nheight=0000000000000000\nheight=0000000000000000\nheight=0000000000000000\nheight=3ff0000000000000\nheight=3ff0000000007800\n"
  -- "Declined prints the first three lines"
  pub declined : called_text (called_on (Answers.Declined 10) after_one F)
      ≡ bytes "answer=declined\ndraws=10\nstate=0000000000000007,0000000000000000,0000000000040002,0000c00000000000\n"
  -- "a refusal prints `answer=refused,number,detail` alone"
  pub refused : called_text (called_on (Answers.Refused (Refusals.Size 4097)) after_one F) ≡ bytes "answer=refused,1,4097\n"
  -- "Ratio is otherwise `even`, `counts,a,b` or `lengths,a,b`"
  pub even : ratio_text Even ≡ bytes "even"
  pub counts : ratio_text (Counts 1 20) ≡ bytes "counts,1,20"
  pub lengths : ratio_text (Lengths 2·0 1·0) ≡ bytes "lengths,4000000000000000,3ff0000000000000"
  pub power : ratio_text (Power 1·0 (pos 2045)) ≡ bytes "power,3ff0000000000000,2045"

-- each by computation
pub report-rows : ReportRows
unfolding answer_text drawn_text odds_text tree_text refused_text line comma signed_text state_text ratio_text pair_lines pairs_text heights_text hex_text digit decimal_in
    to_bits of_bits size round
report-rows = record { moved = refl; declined = refl; refused = refl; even = refl; counts = refl; lengths = refl; power = refl }
