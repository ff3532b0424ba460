-- A record's allowance stands by itself in word 5. In order: with another one the record reads the same elsewhere (`elsewhere` and on), and the one put there is
-- what a call reads (`put-read`, `word_read`); what an answer writes is written beside it (`stores-beside` and on), a generator of four words among it; and by the
-- record a 6 can be told (`proposed-tells` and on). Assumes nothing.
use Rattle.std.specs.Prelude.{◌≡◌, refl, ◌≢◌, Bool, true, false, not, List, [], ◌∷◌, ℕ, suc, ◌+◌, ◌≤◌, ◌<◌, T, leb, ltb, eqb, length, set}
use Rattle.std.proofs.Common.{sym, ◌∙◌, arith, T_not, length-set, get_or-set_same, get_or-set_other, le-ltb, ltb-true, ltb-false, eq-eqb}
use Rattle.std.proofs.Math.Path.{ap}
use Rattle.std.proofs.Math.ListN.{get_or-eq_default}
use Rattle.std.proofs.lemmas.List.Edits.{sets}
use Rattle.std.proofs.lemmas.List.{set_comm}
use Rattle.answer.specs.declared.Refusal.{Refusal}
use Rattle.answer.specs.declared.Proposal.{Proposal}
use Rattle.answer.specs.declared.Proposal.TheVariants as Proposals
use Rattle.answer.specs.declared.Answer.{Answer}
use Rattle.answer.specs.declared.Answer.TheVariants as Answers
use Rattle.answer.specs.Answers.{number_of, detail_of}
use Rattle.random.specs.declared.Random.{Random}
use Rattle.random.specs.Generator.{state_of}
use Rattle.record.specs.declared.Reply.{Reply}
use Rattle.record.specs.Record.{is_record, word_in, generator_in, root_in, allowance_in, with_generator, with_root, written, replied, moved_reply, declined_reply, refused_reply, proposed, answered}
use Rattle.allowances.specs.Lasting.{answer_number, proposal_number, written_number, written_with}

-- ---- what is read

module _ (words : List ℕ) (b : ℕ) where
  pub elsewhere : (k : ℕ) → T (not (eqb k 5)) → word_in (set words 5 b) k ≡ word_in words k
  elsewhere k n = get_or-set_other words 5 k b 0 (λ e. T_not (eqb k 5) n (rw (eq-eqb k 5 e) tt))

  pub record_same : is_record (set words 5 b) ≡ is_record words
  record_same = ap (leb 32) (length-set words 5 b)

  pub root-same : root_in (set words 5 b) ≡ root_in words
  root-same = elsewhere 4 tt

  pub generator-same : generator_in (set words 5 b) ≡ generator_in words
  generator-same = rw (elsewhere 0 tt, elsewhere 1 tt, elsewhere 2 tt, elsewhere 3 tt)

  -- a record that has an allowance has a word for it
  has_word : 1 ≤ word_in words 5 → 5 < length words
  has_word h = go (ltb 5 (length words)) (ltb-true 5 (length words)) (ltb-false 5 (length words))
    where
      go : (l : Bool) → (l ≡ true → 5 < length words) → (l ≡ false → length words ≤ 5) → 5 < length words
      go true p q = p refl
      go false p q = let z : word_in words 5 ≡ 0 = get_or-eq_default words 0 (q refl) in absurd (omega arith)

  pub put-read : 1 ≤ word_in words 5 → b ≤ 65535 → allowance_in (set words 5 b) ≡ b
  put-read h k = rw (get_or-set_same words 5 b 0 (has_word h), le-ltb 65535 b k)

pub word_read : (words : List ℕ) → word_in words 5 ≤ 65535 → allowance_in words ≡ word_in words 5
word_read words k = rw (le-ltb 65535 (word_in words 5) k)

-- ---- what is written

-- stores at other places
pub stores-beside : (vs : List ℕ) (words : List ℕ) (i k b : ℕ) → ((j : ℕ) → i ≤ j → j < i + length vs → j ≢ k) → sets (set words k b) i vs ≡ set (sets words i vs) k b
stores-beside [] words i k b apart = refl
stores-beside (v ∷ vs) words i k b apart =
    ap (λ (w : List ℕ). sets w (suc i) vs) (set_comm words k i b v (λ e. apart i (omega arith) (omega arith) (sym e)))
    ∙ stores-beside vs (set words i v) (suc i) k b (λ j p q. apart j (omega arith) (omega arith))

module _ (b : ℕ) where
  pub generator-beside : (g : Random) (words : List ℕ) → length (state_of g) ≡ 4 → with_generator g (set words 5 b) ≡ set (with_generator g words) 5 b
  generator-beside g words four = stores-beside (state_of g) words 0 5 b (λ j p q e. absurd (omega arith))

  pub replied-beside : (r : Reply) (words : List ℕ) → replied r (set words 5 b) ≡ written_with b (replied r words)
  replied-beside r words =
      ap (written r.code) (stores-beside (r.code ∷ r.draws ∷ r.kind ∷ r.first ∷ r.second ∷ []) words 8 5 b (λ j p q e. absurd (omega arith)))

  pub proposed-beside : (p : Proposal) (g : Random) (words : List ℕ) → length (state_of g) ≡ 4 → proposed p g (set words 5 b) ≡ written_with b (proposed p g words)
  unfolding proposed
  proposed-beside (Proposals.Scaled draws r) g words four = ap (replied (moved_reply draws r)) (generator-beside g words four) ∙ replied-beside (moved_reply draws r) (with_generator g words)
  proposed-beside (Proposals.Declined draws) g words four = ap (replied (declined_reply draws)) (generator-beside g words four) ∙ replied-beside (declined_reply draws) (with_generator g words)
  proposed-beside (Proposals.Refused why) g words four = replied-beside (refused_reply why) words

  pub answered-beside : (a : Answer) (g : Random) (words : List ℕ) → length (state_of g) ≡ 4 → answered a g (set words 5 b) ≡ written_with b (answered a g words)
  unfolding answered
  answered-beside (Answers.Moved m) g words four =
      ap (proposed (Proposals.Scaled m.draws m.ratio) g) (set_comm words 5 4 b m.root (λ e. absurd (omega arith)))
      ∙ proposed-beside (Proposals.Scaled m.draws m.ratio) g (with_root m.root words) four
  answered-beside (Answers.Declined draws) g words four = proposed-beside (Proposals.Declined draws) g words four
  answered-beside (Answers.Refused why) g words four = proposed-beside (Proposals.Refused why) g words four

-- ---- a 6 in the record

module _ (words : List ℕ) (long : 32 ≤ length words) where
  pub refusal-tells : (why : Refusal) → written_number (replied (refused_reply why) words) ≡ number_of why
  refusal-tells why =
      let words-10 : List ℕ = set (set words 8 2) 9 0 in
      let long-10 : 10 < length words-10 = simp length-set (omega arith) in
      get_or-set_other (set (set words-10 10 (number_of why)) 11 (detail_of why)) 12 10 0 0 (λ e. absurd (omega arith))
      ∙ get_or-set_other (set words-10 10 (number_of why)) 11 10 (detail_of why) 0 (λ e. absurd (omega arith))
      ∙ get_or-set_same words-10 10 (number_of why) 0 long-10

  pub proposed-tells : (p : Proposal) (g : Random) → proposal_number p ≡ 6 → written_number (proposed p g words) ≡ 6
  unfolding proposed
  proposed-tells (Proposals.Scaled draws r) g e = absurd (omega arith)
  proposed-tells (Proposals.Declined draws) g e = absurd (omega arith)
  proposed-tells (Proposals.Refused why) g e = refusal-tells why ∙ e

  pub answered-tells : (a : Answer) (g : Random) → answer_number a ≡ 6 → written_number (answered a g words) ≡ 6
  unfolding answered
  answered-tells (Answers.Moved m) g e = absurd (omega arith)
  answered-tells (Answers.Declined draws) g e = absurd (omega arith)
  answered-tells (Answers.Refused why) g e = proposed-tells (Proposals.Refused why) g e
