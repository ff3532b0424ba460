-- The parameters in a record: where each stands in words 13 to 31 and in what form, and what a call on parameters leaves there. A float stands in a
-- word by its bits; a flag that is 0 says that what follows is missing. Definitions only. Assumes nothing.
use Rattle.std.specs.Prelude.{Bool, true, false, cond, List, [], ◌∷◌, ℕ, eqb, set, Float, Option, Some, None}
use Rattle.std.proofs.lemmas.List.Edits.{sets}
use Rattle.std.specs.Float.{binary64}
use Rattle.std.specs.Float.Ieee.{to_bits}
use Rattle.answer.specs.declared.Proposal.{Proposal}
use Rattle.answer.specs.declared.Proposal.TheVariants as Proposals
use Rattle.random.specs.declared.Random.{Random}
use Rattle.speciation.specs.declared.Speciation.{Speciation}
use Rattle.speciation.specs.declared.Speciation.TheVariants.{Yule, BirthDeath}
use Rattle.process.specs.declared.FossilizedBirthDeath.{FossilizedBirthDeath}
use Rattle.process.specs.declared.ProcessPriors.{ProcessPriors}
use Rattle.fields.specs.declared.Field.TheVariants.{Birth, Death, FossilSampling, Origin}
use Rattle.record.specs.Record.{word_in, real_in, node_in, Written, proposed}
use Rattle.fields.specs.declared.Field.{Field}

-- ---- what a call reads

-- the float in word k, if the flag is not 0
abbrev pub optional_in : List ℕ → ℕ → ℕ → Option Float
optional_in words flag k = cond (eqb (word_in words flag) 0) None (Some (real_in words k))

-- word 13 is 0 for a Yule process; its rate, or the two of a birth–death process, from word 14 on
abbrev pub speciation_in : List ℕ → Speciation
speciation_in words = cond (eqb (word_in words 13) 0) (Yule (real_in words 14)) (BirthDeath (real_in words 14) (real_in words 15))

-- words 13 to 17
abbrev pub process_in : List ℕ → FossilizedBirthDeath
process_in words = record {
  birth = real_in words 13;
  death = real_in words 14;
  fossil_sampling = real_in words 15;
  present_sampling = real_in words 16;
  origin = real_in words 17;
}

-- words 18 to 28: a flag and a mean each, and for present sampling a flag and two shapes
abbrev pub shapes_in : List ℕ → Option (Float × Float)
shapes_in words = cond (eqb (word_in words 24) 0) None (Some ((real_in words 25), (real_in words 26)))

abbrev pub priors_in : List ℕ → ProcessPriors
priors_in words = record {
  birth_rate_mean = optional_in words 18 19;
  death_rate_mean = optional_in words 20 21;
  fossil_sampling_rate_mean = optional_in words 22 23;
  present_sampling_beta = shapes_in words;
  origin_excess_mean = optional_in words 27 28;
}

-- the field that word 6 names
abbrev pub field_of : ℕ → Option Field
field_of n =
    cond (eqb n 0) (Some Birth)
    (cond (eqb n 1) (Some Death)
    (cond (eqb n 2) (Some FossilSampling) (cond (eqb n 3) (Some Origin) None)))

abbrev pub chosen_in : List ℕ → Option Field
chosen_in words = field_of (node_in words)

-- ---- what a call writes

abbrev pub with_real : ℕ → Float → List ℕ → List ℕ
with_real k x words = set words k (to_bits binary64 x)

abbrev pub with_optional : Option Float → List ℕ → List ℕ
with_optional None words = words
with_optional (Some x) words = with_real 14 x words

abbrev pub with_speciation : Speciation → List ℕ → List ℕ
with_speciation (Yule rate) words = with_real 14 rate words
with_speciation (BirthDeath difference death) words = with_real 15 death (with_real 14 difference words)

abbrev pub with_process : FossilizedBirthDeath → List ℕ → List ℕ
with_process p words =
    sets words 13
    (to_bits binary64 p.birth
    ∷ to_bits binary64 p.death
    ∷ to_bits binary64 p.fossil_sampling
    ∷ to_bits binary64 p.present_sampling
    ∷ to_bits binary64 p.origin
    ∷ [])

abbrev pub is_scaled : Proposal → Bool
is_scaled (Proposals.Scaled draws r) = true
is_scaled (Proposals.Declined draws) = false
is_scaled (Proposals.Refused why) = false

-- the answer and the generator, and after a call that scaled also the parameters v
unfoldable pub proposed_left : {P : Type 0} → (P → List ℕ → List ℕ) → Proposal → Random → P → List ℕ → Written
proposed_left write proposal g v words = proposed proposal g (cond (is_scaled proposal) (write v words) words)
