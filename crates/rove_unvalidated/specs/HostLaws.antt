-- What a host may take from the contracts of the unvalidated functions. Of an accepted tree: what the checked function leaves (`accepted-export`,
-- `accepted-start-export`). Of any slices: a call with a parameter or the allowance outside its limits is refused with 5, 0 and writes words 8 to 12 alone
-- (`limited-export`); so does every refused call (`refused-export`); and a declined one leaves the slices and steps the generator as often as it says
-- (`declined-export`). Assumes nothing.
use Rattle.std.specs.Prelude.{◌≡◌, true, false, ◌&&◌, List, ℕ, Float}
use Rattle.std.proofs.Math.Path.{refl, ap}
use Rattle.std.proofs.Common.{sym, ◌∙◌, true≢false, arith}
use Rattle.answer.specs.declared.Refusal.{Refusal}
use Rattle.answer.specs.declared.Refusal.TheVariants.{Parameter}
use Rattle.answer.specs.declared.Answer.{Answer}
use Rattle.answer.specs.declared.Answer.TheVariants as Answers
use Rattle.random.specs.Generator.{after}
use Rattle.random.specs.Draw.{allowed}
use Rattle.tree.specs.New.{Accepted}
use Rattle.calls.specs.Call.{Called}
use Rattle.calls.proofs.RunLaws.{clash}
use Rattle.moves.specs.Moves.{Move, limits}
use Rattle.moves.specs.StartLaws.{accepted-start}
use Rattle.record.specs.Record.{is_record, generator_in, allowance_in, with_generator, replied, refused_reply, declined_reply, answered, proposed}
use Rattle.rove.specs.Exports.{Left, left, move_left, tree_in, exported, start_exported}
use Rattle.rove_unvalidated.specs.Unvalidated.{UnvalidatedExport, on-record, off_record, unvalidated_start_exported}

-- the refusal that a refused call has written
pub record RefusedExport (pairs parents : List ℕ) (heights : List Float) (words : List ℕ) (l : Left) : Type 0 where
  pub why : Refusal
  pub is : l ≡ left (replied (refused_reply why) words) pairs parents heights

-- the draws that a declined call has made
pub record DeclinedExport (pairs parents : List ℕ) (heights : List Float) (words : List ℕ) (l : Left) : Type 0 where
  pub draws : ℕ
  pub is : l ≡ left (replied (declined_reply draws) (with_generator (after draws (generator_in words)) words)) pairs parents heights

module _ (m : Move) (pairs parents : List ℕ) (heights : List Float) (words : List ℕ) where
  -- of an accepted tree, what the checked function leaves
  pub accepted-export : {l : Left} → Accepted (tree_in pairs parents heights words) → UnvalidatedExport m pairs parents heights words l → l ≡ exported m pairs parents heights words
  unfolding exported
  accepted-export v (on-record e c u) = rw (e, ← u.decided v)
  accepted-export v (off_record e) = rw e

  -- a parameter or the allowance is outside its limits
  pub limited-export : {l : Left} → is_record words ≡ true → limits m (tree_in pairs parents heights words) && allowed (allowance_in words) ≡ false
      → UnvalidatedExport m pairs parents heights words l → l ≡ left (replied (refused_reply (Parameter 0)) words) pairs parents heights
  unfolding answered proposed
  limited-export y o (on-record e c u) = ap (λ (x : Called). move_left x words) (u.harmless.limited o)
  limited-export y o (off_record e) = absurd (true≢false (sym y ∙ e))

  -- code 2
  pub refused-export : {l : Left} → UnvalidatedExport m pairs parents heights words l → l.written.code ≡ 2 → RefusedExport pairs parents heights words l
  unfolding answered proposed
  refused-export (off_record e) h = clash (omega arith)
  refused-export (on-record e c w) h = go c.answer refl h
    where
      go : (a : Answer) → c.answer ≡ a → (answered a c.random words).code ≡ 2 → RefusedExport pairs parents heights words (move_left c words)
      go (Answers.Moved v) f h = clash (omega arith)
      go (Answers.Declined k) f h = clash (omega arith)
      go (Answers.Refused why) f h = record { why = why; is = ap (λ (x : Called). move_left x words) (w.harmless.refused why f) }

  -- code 1
  pub declined-export : {l : Left} → UnvalidatedExport m pairs parents heights words l → l.written.code ≡ 1 → DeclinedExport pairs parents heights words l
  unfolding answered proposed
  declined-export (off_record e) h = clash (omega arith)
  declined-export (on-record e c w) h = go c.answer refl h
    where
      go : (a : Answer) → c.answer ≡ a → (answered a c.random words).code ≡ 1 → DeclinedExport pairs parents heights words (move_left c words)
      go (Answers.Moved v) f h = clash (omega arith)
      go (Answers.Declined k) f h = record { draws = k; is = ap (λ (x : Called). move_left x words) (w.harmless.declined k f) }
      go (Answers.Refused why) f h = clash (omega arith)

-- the slide's first call of an accepted tree
pub accepted-start-export : (pairs parents : List ℕ) (heights : List Float) (words : List ℕ) → Accepted (tree_in pairs parents heights words)
    → unvalidated_start_exported pairs parents heights words ≡ start_exported pairs parents heights words
unfolding unvalidated_start_exported start_exported
accepted-start-export pairs parents heights words v = rw (accepted-start (tree_in pairs parents heights words) v (generator_in words) (allowance_in words))
