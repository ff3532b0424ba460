-- Words that were found to be a record, or one that is ready, have room for what is written (`room_laws`): before anything is written, and once the
-- generator is. b is what the test said. Assumes nothing.
use Rattle.std.specs.Prelude.{◌≡◌, ℕ, ◌≤◌, Bool, true, List, length, refl}
use Rattle.std.proofs.Common.{sym, ◌∙◌, leb-true}
use Rattle.std.proofs.Math.Bool.{and-eq-true_iff}
use Rattle.std.proofs.Math.Seq.{length-sets}
use Rattle.random.specs.declared.Random.{Random}
use Rattle.random.specs.Generator.{state_of}
use Rattle.random.specs.Draw.{allowed}
use Rattle.record.specs.Record.{is_record, is_ready, word_in, with_generator}

module _ (words : List ℕ) (b : Bool) (eb : b ≡ is_record words) (h : b ≡ true) where
  pub recorded : 32 ≤ length words
  recorded = leb-true 32 (length words) (sym eb ∙ h)

  pub recorded-drawn : (g : Random) (after : List ℕ) → after ≡ with_generator g words → 32 ≤ length after
  recorded-drawn g after e = rw (e, length-sets words 0 (state_of g)) recorded

module _ (words : List ℕ) (b : Bool) (eb : b ≡ is_ready words) (h : b ≡ true) where
  pub ready-is : is_record words ≡ true
  ready-is = ((and-eq-true_iff (is_record words) (allowed (word_in words 5))).0 (sym eb ∙ h)).0

  pub ready-recorded : 32 ≤ length words
  ready-recorded = recorded words (is_record words) refl ready-is

pub ruleset room_laws = (recorded, recorded-drawn, ready-recorded)
