-- A generator's words copied into a record (`word_laws`). Assumes nothing.
use Rattle.std.proofs.Common.{◌≡◌, ℕ, ◌+◌, ◌≤◌, List, ◌++◌, length, take, drop, sym, ap, ◌∙◌, zero-add, arith, length-take}
use Rattle.std.proofs.lemmas.List.Edits.{sets, sets-eq}
use Rattle.random.specs.declared.Random.{Random}
use Rattle.random.specs.Generator.{state_of}
use Rattle.record.specs.Record.{with_generator}

-- the first words in place of as many others
first-put : (words s : List ℕ) (n : ℕ) → length s ≡ n → n ≤ length words → s ++ drop n words ≡ sets words 0 s
first-put words s n e h =
    let at : 0 + length s ≡ n = zero-add (length s) ∙ e in
    ap (λ (m : ℕ). s ++ drop m words) (sym at) ∙ sym (sets-eq s words 0 (rw at h))

-- s is what was copied
pub generator-put : (g : Random) (words s : List ℕ) → 32 ≤ length words → length s ≡ length (take 4 words) → s ≡ state_of g → s ++ drop 4 words ≡ with_generator g words
generator-put g words s h l e = first-put words s 4 (omega (arith, length-take 4 words)) (omega arith) ∙ ap (sets words 0) e

pub ruleset word_laws = (generator-put)
