-- Document 01's number, detail and values for each case of a refusal, a ratio and an answer. Definitions only. Assumes nothing.
use Rattle.std.specs.Prelude.{List, [], ◌∷◌, ℕ, ℤ, Float}
use Rattle.answer.specs.declared.Refusal.{Refusal}
use Rattle.answer.specs.declared.Refusal.TheVariants as Refusals
use Rattle.answer.specs.declared.Ratio.{Ratio}
use Rattle.answer.specs.declared.Ratio.TheVariants as Ratios
use Rattle.answer.specs.declared.Answer.{Answer}
use Rattle.answer.specs.declared.Answer.TheVariants as Answers
use Rattle.answer.specs.declared.Proposal.{Proposal}
use Rattle.answer.specs.declared.Proposal.TheVariants as Proposals

-- ---- refusals, by the table of "How a call is turned back"

abbrev pub number_of : Refusal → ℕ
number_of (Refusals.Size count) = 1
number_of (Refusals.Shape node) = 2
number_of Refusals.Disconnected = 3
number_of (Refusals.Height node) = 4
number_of (Refusals.Parameter tip) = 5
number_of (Refusals.Allowance allowance) = 6
number_of (Refusals.NotFinite node) = 7
number_of (Refusals.Outside node) = 8
number_of (Refusals.Line line) = 9

abbrev pub detail_of : Refusal → ℕ
detail_of (Refusals.Size count) = count
detail_of (Refusals.Shape node) = node
detail_of Refusals.Disconnected = 0
detail_of (Refusals.Height node) = node
detail_of (Refusals.Parameter tip) = tip
detail_of (Refusals.Allowance allowance) = allowance
detail_of (Refusals.NotFinite node) = node
detail_of (Refusals.Outside node) = node
detail_of (Refusals.Line line) = line

-- ---- ratios: "even (1 over 1); counts a, b; lengths a, b; power f, k"

pub data Kind : Type 0 where
  even counts lengths power : Kind

abbrev pub kind_of : Ratio → Kind
kind_of Ratios.Even = even
kind_of (Ratios.Counts a b) = counts
kind_of (Ratios.Lengths a b) = lengths
kind_of (Ratios.Power f k) = power

pub data Value : Type 0 where
  natural : ℕ → Value
  real : Float → Value
  integer : ℤ → Value

-- a and b of a over b, or f and k of f to the power k
abbrev pub values_of : Ratio → List Value
values_of Ratios.Even = natural 1 ∷ natural 1 ∷ []
values_of (Ratios.Counts a b) = natural a ∷ natural b ∷ []
values_of (Ratios.Lengths a b) = real a ∷ real b ∷ []
values_of (Ratios.Power f k) = real f ∷ integer k ∷ []

-- ---- answers

-- the draws made: "generator advanced by the draws made", and of a refused call "generator as given"
abbrev pub draws_of : Answer → ℕ
draws_of (Answers.Moved m) = m.draws
draws_of (Answers.Declined draws) = draws
draws_of (Answers.Refused why) = 0

-- the same of a call on parameters
abbrev pub draws_in : Proposal → ℕ
draws_in (Proposals.Scaled draws ratio) = draws
draws_in (Proposals.Declined draws) = draws
draws_in (Proposals.Refused why) = 0
