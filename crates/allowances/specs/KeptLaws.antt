-- What is shown of every exported function at once: where its call is `Lasting`, what the call leaves is written beside the allowance, and a 6 can be told by
-- what is written, the function leaves the same with a larger allowance but for that word (`kept`). Assumes nothing.
use Rattle.std.specs.Prelude.{◌≡◌, refl, ◌≢◌, Bool, true, false, cond, List, ℕ, ◌≤◌, length, set}
use Rattle.std.proofs.Common.{ap, ◌∙◌, arith, leb-true}
use Rattle.random.specs.declared.Random.{Random}
use Rattle.random.specs.Generator.{state_of}
use Rattle.record.specs.Record.{is_record, word_in, allowance_in}
use Rattle.allowances.specs.Lasting.{Lasting}
use Rattle.allowances.specs.WordLaws.{word_read}

-- ---- the generator of a record

-- four words, which it has after any number of draws (`after-four`, random/DrawLaws)
abbrev pub Four : Random → Type 0
Four g = length (state_of g) ≡ 4

-- ---- any call, on words that may be no record

-- its answer is left in the words w by `leave`, and `without` is what is left where the words are no record
module _ {C L : Type 0} (number : C → ℕ) (call : ℕ → C) (lasting : Lasting number call)
    (told : L → ℕ) (with : ℕ → L → L) (leave : C → List ℕ → L) (without : List ℕ → L) (words : List ℕ) (b : ℕ) where
  abbrev leaves : ℕ → List ℕ → L
  leaves a w = cond (is_record words) (leave (call a) w) (without w)

  -- it is written beside the allowance, and by what is written a 6 can be told
  pub record Beside : Type 0 where
    pub beside : leave (call (allowance_in words)) (set words 5 b) ≡ with b (leave (call (allowance_in words)) words)
    pub bare : without (set words 5 b) ≡ with b (without words)
    pub tells : 32 ≤ length words → number (call (allowance_in words)) ≡ 6 → told (leave (call (allowance_in words)) words) ≡ 6

  pub kept : Beside → 1 ≤ word_in words 5 → word_in words 5 ≤ b → b ≤ 65535 → told (leaves (allowance_in words) words) ≢ 6
      → leaves b (set words 5 b) ≡ with b (leaves (allowance_in words) words)
  kept s h o k = go (is_record words) (leb-true 32 (length words))
    where
      go : (r : Bool) → (r ≡ true → 32 ≤ length words) → told (cond r (leave (call (allowance_in words)) words) (without words)) ≢ 6
          → cond r (leave (call b) (set words 5 b)) (without (set words 5 b)) ≡ with b (cond r (leave (call (allowance_in words)) words) (without words))
      go true long n =
          let a = word_read words (omega arith) in
          ap (λ (c : C). leave c (set words 5 b)) (lasting (allowance_in words) b (omega arith) (omega arith) k (λ e. n (s.tells (long refl) e))) ∙ s.beside
      go false long n = s.bare
