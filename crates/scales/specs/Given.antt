-- The forms in which the code of the scales hands on what the definitions say. Definitions only. Assumes nothing.
use Rattle.std.specs.Prelude.{Bool, cond, ℕ, ◌-◌, negsuc, Float}
use Rattle.answer.specs.declared.Refusal.{Refusal}
use Rattle.answer.specs.declared.Refusal.TheVariants.{Parameter}
use Rattle.answer.specs.declared.Ratio.TheVariants.{Power}
use Rattle.answer.specs.declared.Proposal.{Proposal}
use Rattle.answer.specs.declared.Proposal.TheVariants as Proposals
use Rattle.random.specs.declared.Random.{Random}
use Rattle.random.specs.declared.Supply.{Supply}
use Rattle.scales.specs.declared.Scaled.{Scaled}

-- the answer of a call that declines without a draw, where it may go on
abbrev pub undrawn_of : Bool → Proposal
undrawn_of b = cond b (Proposals.Declined 0) (Proposals.Refused (Parameter 0))

-- the answer of a call that is turned back, with what was given
abbrev pub turned_back : {A : Type 0} → Refusal → A → Random → Scaled A
turned_back why value g = record { proposal = Proposals.Refused why; value = value; random = g }

-- after a factor f was drawn: the new value where it is admitted, else the old one; the draws are those allowed less those left
abbrev pub settled : Bool → Float → Float → Float → ℕ → Supply → Scaled Float
settled admitted new old f allowance s =
    cond admitted (record { proposal = Proposals.Scaled (allowance - s.left) (Power f (negsuc 0)); value = new; random = s.random })
    (record { proposal = Proposals.Declined (allowance - s.left); value = old; random = s.random })
