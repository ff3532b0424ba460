-- Request S-5, "A bigger allowance", of one call: "If a call (by values; a longer file may be a 9) with some allowance of 1 or more is moved or declined, the
-- same call with any larger allowance up to 65,535 gives the same answer, tree, generator and draw count. If it is refused with 7 or 8 it stays so. Only a 6
-- may turn into something else." Definitions only. Assumes nothing.
use Rattle.std.specs.Prelude.{◌≡◌, ◌≢◌, cond, List, ℕ, ◌≤◌, eqb, set, Result, Ok, Err}
use Rattle.answer.specs.declared.Answer.{Answer}
use Rattle.answer.specs.declared.Answer.TheVariants as Answers
use Rattle.answer.specs.declared.Proposal.{Proposal}
use Rattle.answer.specs.declared.Proposal.TheVariants as Proposals
use Rattle.answer.specs.Answers.{number_of}
use Rattle.record.specs.Record.{word_in, Written, written}
use Rattle.answer.specs.declared.Refusal.{Refusal}
use Rattle.slide.specs.declared.SlideNode.{SlideNode}

-- ---- a call by values

-- A call as a function of its allowance, all else that it is given being the same; what it gives is all that it leaves: its answer with the draws made, the
-- generator, and the tree or the parameters. `number` is that of the refusal that it ends in, and 0 where it is not refused.
abbrev pub Lasting : {C : Type 0} → (C → ℕ) → (ℕ → C) → Type 0
Lasting number call = (a b : ℕ) → 1 ≤ a → a ≤ b → b ≤ 65535 → number (call a) ≢ 6 → call b ≡ call a

-- the number of each kind of answer
abbrev pub answer_number : Answer → ℕ
answer_number (Answers.Moved m) = 0
answer_number (Answers.Declined draws) = 0
answer_number (Answers.Refused why) = number_of why

abbrev pub proposal_number : Proposal → ℕ
proposal_number (Proposals.Scaled draws r) = 0
proposal_number (Proposals.Declined draws) = 0
proposal_number (Proposals.Refused why) = number_of why

abbrev pub below_number : Result (ℕ × ℕ) Refusal → ℕ
below_number (Ok (k, draws)) = 0
below_number (Err why) = number_of why

abbrev pub begun_number : Result SlideNode Refusal → ℕ
begun_number (Ok s) = 0
begun_number (Err why) = number_of why

-- ---- an exported function

-- The allowance is word 5 of the record. A function of the words leaves an L, in which the words afterwards are: with a larger allowance it leaves the same but
-- for that word, where the larger one still stands. `with` puts an allowance into the words of an L.
abbrev pub LastingOn : {L : Type 0} → (L → ℕ) → (ℕ → L → L) → (List ℕ → L) → List ℕ → Type 0
LastingOn number with function words =
    (b : ℕ) → 1 ≤ word_in words 5 → word_in words 5 ≤ b → b ≤ 65535 → number (function words) ≢ 6 → function (set words 5 b) ≡ with b (function words)

-- the number as a record has it: in word 10, where the code is 2
abbrev pub written_number : Written → ℕ
written_number w = cond (eqb w.code 2) (word_in w.words 10) 0

abbrev pub written_with : ℕ → Written → Written
written_with b w = written w.code (set w.words 5 b)
