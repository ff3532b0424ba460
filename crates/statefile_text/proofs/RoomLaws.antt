-- The ways through the code that says what room a text leaves, and hands the text over where it fits. Assumes nothing.
use mathlib.Core.Path.{◌≡◌, refl, ap, ◌∙◌}
use mathlib.Core.List.{List}
use Prim.Native.Nat.{ℕ, suc, ◌+◌, ◌-◌, ◌*◌, ◌/◌, ◌^◌, ◌≤◌, ◌<◌, min}
use native.Mathlib.Omega.{arith}
use lib.ListN.{length, get_or, length-append}
use lib.Ieee.{Float}
use mir.Syntax.{w64}
use mir.Val.{Fits}
use Rattle.text.specs.Text.{decimal_text}
use Rattle.forms.specs.Forms.{name_of}
use Rattle.forms.specs.declared.Kind.{Kind}
use Rattle.print.specs.Writing.{written, write}
use Rattle.print.specs.NumberLaws.{digits-few}
use Rattle.tree.specs.Tree.{nodes_of, tips_of}
use Rattle.notation.specs.Notation.{pair_line, pair_lines, pairs_text, heights_text}
use Rattle.notation.specs.NotationLaws.{next-pair}
use Rattle.notation.specs.LengthLaws.{length-heights}
use Rattle.report.specs.Report.{delivery, delivered}
use Rattle.report.specs.ReportLaws.{deliver-short, deliver-whole}
use Rattle.statefile.specs.declared.Supplied.{Supplied}
use Rattle.statefile.specs.declared.Asked.{Asked}
use Rattle.statefile.specs.StateFile.{words_of, move_of, state_in}
use Rattle.statefile_text.specs.StateText.{node_of, supplied_text, asked_text, tips_text, file_text}
use Rattle.statefile_text.specs.LengthLaws.{names-few, length-supplied, length-asked, length-tips, length-file}
use Rattle.statefile_text.proofs.PutLaws.{kind-is}

-- ---- lines 1 to 7

module _ (draws d : ℕ) (ed : d ≡ length (decimal_text draws)) where
  pub draws-fit : Fits w64 (133 + d)
  draws-fit = let f = digits-few draws in record { fits = omega arith }

  module _ (k : Kind) (m : ℕ) (em : m ≡ length (name_of k)) where
    pub name-fits : Fits w64 (133 + d + m)
    name-fits = let f = digits-few draws in let g = names-few k in record { fits = omega arith }

    module _ (i e : ℕ) (ee : e ≡ length (decimal_text i)) where
      pub node-fits : Fits w64 (133 + d + m + e)
      node-fits = let f = digits-few draws in let g = names-few k in let h = digits-few i in record { fits = omega arith }

      module _ (tips t : ℕ) (et : t ≡ length (decimal_text tips)) where
        pub tips-fit : Fits w64 (133 + d + m + e + t)
        tips-fit = let f = digits-few draws in let g = names-few k in let h = digits-few i in let j = digits-few tips in record { fits = omega arith }

        pub head-len : (words : List ℕ) (n : ℕ) (x : Float) (pairs : List ℕ) → i ≡ node_of (move_of k n x) → tips ≡ tips_of (nodes_of pairs)
            → 133 + d + m + e + t ≡ length (supplied_text draws words) + length (asked_text (move_of k n x)) + length (tips_text pairs)
        head-len words n x pairs ei en =
            rw (length-supplied draws words, length-asked (move_of k n x), length-tips pairs, kind-is k n x, ← ei, ← en, ← ed, ← em, ← ee, ← et) (omega arith)

pub ruleset head_laws = (draws-fit, name-fits, node-fits, tips-fit, head-len)

-- ---- the heights

pub heights-left : (room : ℕ) (heights : List Float) → room < 2 ^ 64 → (m r : ℕ) → m ≡ min (length heights * 24) (2 ^ 64 - 1) → r ≡ room - m
    → r ≡ room - length (heights_text heights)
heights-left room heights f m r em er = let l = length-heights heights in omega arith

-- ---- the pairs, of which those before node k are taken off

pub record Taken (pairs : List ℕ) (room n k left : ℕ) : Type 0 where
  pub nodes : n ≡ length pairs / 2
  pub here : k ≤ n
  pub rest : left - length (pair_lines (n - k) k pairs) ≡ room - length (pairs_text pairs)

pub taken_none : (pairs : List ℕ) (room : ℕ) → Taken pairs room (length pairs / 2) (length pairs / 2 - length pairs / 2 / 2) room
unfolding pairs_text
taken_none pairs room =
    let n = length pairs / 2 in
    let e : n - n / 2 ≡ (n + 1) / 2 = omega arith in
    record { nodes = refl; here = omega arith; rest = rw e }

module _ (pairs : List ℕ) (room n k left : ℕ) (c : Taken pairs room n k left) where
  module _ (h : k < n) where
    pub taken-place : k + k + 1 < length pairs
    taken-place = let e = c.nodes in omega arith

    pub taken_next : (l r : ℕ) → l ≡ left - r → r ≡ length (pair_line (get_or pairs (k + k) 0) (get_or pairs (k + k + 1) 0)) → Taken pairs room n (k + 1) l
    taken_next l r el er =
        let q = c.rest in
        let p = ap length (next-pair n k pairs h) ∙ length-append (pair_line (get_or pairs (k + k) 0) (get_or pairs (k + k + 1) 0)) (pair_lines (n - (k + 1)) (k + 1) pairs) in
        record { nodes = c.nodes; here = omega arith; rest = omega arith }

  pub taken-all : n ≤ k → left ≡ room - length (pairs_text pairs)
  unfolding pair_lines
  taken-all h = let e : n - k ≡ 0 = omega arith in let l : left - 0 ≡ room - length (pairs_text pairs) = rw e at c.rest in omega arith

pub ruleset taken_laws = (taken_none, taken-place, taken_next, taken-all)

-- ---- the whole text

module _ (x : Supplied) (y : Asked) (pairs : List ℕ) (head : ℕ)
    (eh : head ≡ length (supplied_text x.draws (words_of x.words)) + length (asked_text (move_of y.kind y.node y.tuning)) + length (tips_text pairs)) where
  pub head-some : 1 ≤ head
  head-some = let l = length-tips pairs in omega arith

  pub all_left : (heights : List Float) (room a b r : ℕ) → a ≡ room - (head - 1) → b ≡ a - length (pairs_text pairs) → r ≡ b - length (heights_text heights)
      → r ≡ suc room - length (file_text (state_in x y pairs heights))
  all_left heights room a b r ea eb er =
      let s = head-some in
      rw (length-file (state_in x y pairs heights)) (omega arith)

pub ruleset all_laws = (head-some, all_left)

module _ (out text : List ℕ) (left : ℕ) (e : left ≡ suc (length out) - length text) where
  pub file-short : left ≡ 0 → delivery 0 out ≡ delivered out text
  file-short z = deliver-short out text (length text) refl (omega arith)

  pub file-whole : (left ≡ 0 → ⊥) → (o : List ℕ) (r : ℕ) → written o r ≡ write (written out 0) text → delivery r o ≡ delivered out text
  file-whole z o r h = deliver-whole out text (length text) refl (omega arith) o r h

pub ruleset file_laws = (file-short, file-whole)
