-- The ways through the code that says how long a text is: the parts (`part_laws`) and the answers (`answer_laws`). Assumes nothing.
use mathlib.Core.Path.{◌≡◌, sym}
use mathlib.Core.List.{List}
use Prim.Native.Nat.{ℕ, ◌+◌, ◌*◌, ◌<◌}
use native.Mathlib.Omega.{arith}
use lib.ListN.{length}
use lib.Ieee.{Float}
use mir.Syntax.{w64}
use mir.Val.{Fits}
use Rattle.answer.specs.declared.Refusal.{Refusal}
use Rattle.answer.specs.declared.Ratio.{Ratio}
use Rattle.answer.specs.declared.Moved.{Moved}
use Rattle.answer.specs.declared.Answer.{Answer}
use Rattle.answer.specs.declared.Answer.TheVariants as Answers
use Rattle.answer.specs.Answers.{number_of, detail_of}
use Rattle.random.specs.declared.Random.{Random}
use Rattle.text.specs.Text.{decimal_text}
use Rattle.print.specs.NumberLaws.{digits-few}
use Rattle.notation.specs.Notation.{ratio_text, pairs_text}
use Rattle.notation.specs.LengthLaws.{ratio-few, pairs-text-few}
use Rattle.report.specs.Report.{odds_text, tree_text, refused_text, answer_text}
use Rattle.report.specs.Few.{Few}
use Rattle.report.specs.ReportLaws.{length-odds, length-tree, length-refused, length_moved, length-declined}

-- ---- parts

module _ (ratio : Ratio) (r : ℕ) (er : r ≡ length (ratio_text ratio)) where
  pub ratio-fits : Fits w64 (13 + r)
  ratio-fits = let f = ratio-few ratio in record { fits = omega arith }

  module _ (root s : ℕ) (es : s ≡ length (decimal_text root)) where
    pub odds-fit : Fits w64 (13 + r + s)
    odds-fit = let f = ratio-few ratio in let g = digits-few root in record { fits = omega arith }

    pub odds-len : 13 + r + s ≡ length (odds_text ratio root)
    odds-len = rw (er, es) (sym (length-odds ratio root))

module _ (pairs : List ℕ) (heights : List Float) (few : Few pairs heights) where
  pub heights-fit : Fits w64 (24 * length heights)
  heights-fit = let h = few.each in record { fits = omega arith }

  module _ (r : ℕ) (er : r ≡ length (pairs_text pairs)) where
    pub tree-fits : Fits w64 (r + 24 * length heights)
    tree-fits = let f = pairs-text-few pairs few.nodes in let h = few.each in record { fits = omega arith }

    pub tree-len : r + 24 * length heights ≡ length (tree_text pairs heights)
    tree-len = rw er (sym (length-tree pairs heights))

module _ (n r : ℕ) (er : r ≡ length (decimal_text n)) where
  pub number_fits : Fits w64 (17 + r)
  number_fits = let f = digits-few n in record { fits = omega arith }

  module _ (d s : ℕ) (es : s ≡ length (decimal_text d)) where
    pub detail-fits : Fits w64 (17 + r + s)
    detail-fits = let f = digits-few n in let g = digits-few d in record { fits = omega arith }

    pub refused-len : (why : Refusal) → n ≡ number_of why → d ≡ detail_of why → 17 + r + s ≡ length (refused_text why)
    refused-len why en ed = rw (length-refused why, ← en, ← ed, er, es)

pub ruleset part_laws = (ratio-fits, odds-fit, odds-len, heights-fit, tree-fits, tree-len, number_fits, detail-fits, refused-len)

-- ---- answers

module _ (answer : Answer) (g : Random) (pairs : List ℕ) (heights : List Float) where
  pub refused-answer : (why : Refusal) → answer ≡ Answers.Refused why → (r : ℕ) → r ≡ length (refused_text why) → r ≡ length (answer_text answer g pairs heights)
  unfolding answer_text
  refused-answer why e r er = rw e er

  pub declined-answer : (draws : ℕ) → answer ≡ Answers.Declined draws → (r : ℕ) → r ≡ length (decimal_text draws) → 97 + r ≡ length (answer_text answer g pairs heights)
  declined-answer draws e r er = rw (e, er) (sym (length-declined draws g pairs heights))

  pub moved-answer : (m : Moved) → answer ≡ Answers.Moved m → (d : ℕ) → d ≡ length (decimal_text m.draws) → (o : ℕ) → o ≡ length (odds_text m.ratio m.root)
      → (t : ℕ) → t ≡ length (tree_text pairs heights) → 94 + d + o + t ≡ length (answer_text answer g pairs heights)
  moved-answer m e d ed o eo t et = rw (e, ed, eo, et) (sym (length_moved m g pairs heights))

module _ (n r : ℕ) (e : r ≡ length (decimal_text n)) where
  pub declined-fits : Fits w64 (97 + r)
  declined-fits = let f = digits-few n in record { fits = omega arith }

  pub draws-fit : Fits w64 (94 + r)
  draws-fit = let f = digits-few n in record { fits = omega arith }

  module _ (ratio : Ratio) (root o : ℕ) (eo : o ≡ length (odds_text ratio root)) where
    few-odds : o + r + 94 < 1000
    few-odds = let f = digits-few n in let l = length-odds ratio root in let h = ratio-few ratio in let k = digits-few root in omega arith

    pub odds-too : Fits w64 (94 + r + o)
    odds-too = let f = few-odds in record { fits = omega arith }

    pub tree-too : (pairs : List ℕ) (heights : List Float) → Few pairs heights → (t : ℕ) → t ≡ length (tree_text pairs heights) → Fits w64 (94 + r + o + t)
    tree-too pairs heights few t et =
        let f = few-odds in
        let l = length-tree pairs heights in
        let h = pairs-text-few pairs few.nodes in
        let k = few.each in
        record { fits = omega arith }

pub ruleset answer_laws = (refused-answer, declined-answer, moved-answer, declined-fits, draws-fit, odds-too, tree-too)
