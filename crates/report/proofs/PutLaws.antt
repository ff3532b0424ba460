-- The ways through the code that writes the text of an answer. w is what was written before, v what is written in the end. Assumes nothing.
use mathlib.Core.Path.{◌≡◌}
use mathlib.Core.List.{List, ◌++◌}
use Prim.Native.Nat.{ℕ}
use lib.Ieee.{Float}
use Rattle.answer.specs.declared.Refusal.{Refusal}
use Rattle.answer.specs.declared.Ratio.{Ratio}
use Rattle.answer.specs.declared.Moved.{Moved}
use Rattle.answer.specs.declared.Answer.TheVariants as Answers
use Rattle.answer.specs.Answers.{number_of, detail_of}
use Rattle.random.specs.declared.Random.{Random}
use Rattle.random.specs.Generator.{state_of}
use Rattle.text.specs.Text.{bytes, decimal_text}
use Rattle.print.specs.Writing.{Written, write_byte, write}
use Rattle.print.specs.WritingLaws.{write_then}
use Rattle.notation.specs.Notation.{line, comma, state_text, ratio_text, pairs_text, heights_text}
use Rattle.notation.specs.NotationLaws.{line-put}
use Rattle.report.specs.ReportLaws.{deliver-short, deliver-whole}
use Rattle.report.specs.Report.{drawn_text, odds_text, tree_text, refused_text, answer_text}

-- ---- parts

pub random-put : (w a b v : Written) (g : Random) (s : List ℕ) → s ≡ state_of g → a ≡ write w (bytes "state=") → b ≡ write a (state_text s) → v ≡ write_byte b 10
    → v ≡ write w (line (bytes "state=") (state_text (state_of g)))
random-put w a b v g s e ea eb ev = rw (← e) (line-put w a b v (bytes "state=") (state_text s) ea eb ev)

module _ (w a v : Written) where
  pub drawn-put : (draws : ℕ) (g : Random) → a ≡ write w (line (bytes "draws=") (decimal_text draws)) → v ≡ write a (line (bytes "state=") (state_text (state_of g)))
      → v ≡ write w (drawn_text draws g)
  unfolding drawn_text
  drawn-put draws g ea ev = write_then w a v _ _ ea ev

  pub odds-put : (ratio : Ratio) (root : ℕ) → a ≡ write w (line (bytes "ratio=") (ratio_text ratio)) → v ≡ write a (line (bytes "root=") (decimal_text root))
      → v ≡ write w (odds_text ratio root)
  unfolding odds_text
  odds-put ratio root ea ev = write_then w a v _ _ ea ev

  pub tree-put : (pairs : List ℕ) (heights : List Float) → a ≡ write w (pairs_text pairs) → v ≡ write a (heights_text heights) → v ≡ write w (tree_text pairs heights)
  unfolding tree_text
  tree-put pairs heights ea ev = write_then w a v _ _ ea ev

  -- ---- answers

  pub declined-put : (draws : ℕ) (g : Random) → a ≡ write w (bytes "answer=declined\n") → v ≡ write a (drawn_text draws g)
      → v ≡ write w (line (bytes "answer=") (bytes "declined") ++ drawn_text draws g)
  unfolding line
  declined-put draws g ea ev = write_then w a v _ _ ea ev

pub moved-put : (w a b c v : Written) (m : Moved) (g : Random) (pairs : List ℕ) (heights : List Float)
    → a ≡ write w (bytes "answer=moved\n") → b ≡ write a (drawn_text m.draws g) → c ≡ write b (odds_text m.ratio m.root) → v ≡ write c (tree_text pairs heights)
    → v ≡ write w (answer_text (Answers.Moved m) g pairs heights)
unfolding answer_text line
moved-put w a b c v m g pairs heights ea eb ec ev =
    write_then w c v _ (tree_text pairs heights) (write_then w b c _ (odds_text m.ratio m.root) (write_then w a b (bytes "answer=moved\n") (drawn_text m.draws g) ea eb) ec) ev

pub refused-put : (w a b v : Written) (why : Refusal) (n d : ℕ) → n ≡ number_of why → d ≡ detail_of why
    → a ≡ write w (bytes "answer=refused,") → b ≡ write a (comma (decimal_text n) (decimal_text d)) → v ≡ write_byte b 10 → v ≡ write w (refused_text why)
unfolding refused_text line comma write
refused-put w a b v why n d en ed ea eb ev = rw (← en, ← ed) (line-put w a b v (bytes "answer=refused,") (comma (decimal_text n) (decimal_text d)) ea eb ev)

pub ruleset part_laws = (line-put, random-put, drawn-put, odds-put, tree-put, declined-put, moved-put, refused-put)

-- ---- a text where it fits

pub ruleset deliver_laws = (deliver-short, deliver-whole)
