-- Request S-5 of the exported functions of parameters, which stand in words 13 to 31 of the record, and of TipAge. Assumes nothing.
use Rattle.std.specs.Prelude.{◌≡◌, refl, ◌≢◌, Bool, true, false, cond, List, [], ◌∷◌, ℕ, ◌≤◌, length, set, Float, Option, Some, None}
use Rattle.std.proofs.Math.Path.{ap}
use Rattle.std.proofs.Common.{◌∙◌, arith}
use Rattle.std.proofs.lemmas.List.{set_comm}
use Rattle.std.specs.Float.{binary64}
use Rattle.std.specs.Float.Ieee.{to_bits}
use Rattle.answer.specs.declared.Refusal.TheVariants.{Parameter}
use Rattle.answer.specs.declared.Proposal.{Proposal}
use Rattle.answer.specs.declared.Proposal.TheVariants as Proposals
use Rattle.answer.specs.Answers.{draws_of, draws_in}
use Rattle.random.specs.declared.Random.{Random}
use Rattle.random.specs.Draw.{Draw}
use Rattle.random.proofs.DrawLaws.{after-four}
use Rattle.real.specs.Real.{one}
use Rattle.tree.specs.Tree.{Tree}
use Rattle.calls.specs.Change.{Change, value_call}
use Rattle.calls.proofs.ChangeLaws.{value-steps}
use Rattle.speciation.specs.declared.Speciation.{Speciation}
use Rattle.speciation.specs.declared.Speciation.TheVariants.{Yule, BirthDeath}
use Rattle.process.specs.declared.FossilizedBirthDeath.{FossilizedBirthDeath}
use Rattle.scales.specs.Scales as Scales
use Rattle.clocks.specs.Clocks as Clocks
use Rattle.fields.specs.Fields as Fields
use Rattle.dating.specs.TipAge.{tip_age_call}
use Rattle.dating.specs.AgeDemands.{age-steps}
use Rattle.record.specs.Record.{is_record, no_record, word_in, real_in, generator_in, tuning_in, allowance_in, Written, written, on_record, replied, refused_reply, proposed}
use Rattle.record_parameters.specs.Parameters.{optional_in, speciation_in, process_in, priors_in, with_real, with_optional, with_speciation, with_process, chosen_in, proposed_left}
use Rattle.rove.specs.Exports.{tree_in}
use Rattle.rove_parameters.specs.Exports.{lent, call_left, rates_left, chosen_left, aged_left, scale_exported, clock_rate_exported, birth_difference_exported, birth_rate_exported, relative_death_exported, clock_sigma_exported, branch_rate_scale_exported, fbd_exported, tip_age_exported}
use Rattle.allowances.specs.Lasting.{answer_number, proposal_number, written_number, written_with}
use Rattle.allowances.specs.CallLaws.{lasting-calls, value-lasting}
use Rattle.allowances.specs.WordLaws.{elsewhere, record_same, root-same, generator-same, put-read, stores-beside, replied-beside, proposed-beside, answered-beside, proposed-tells, answered-tells}
use Rattle.allowances.specs.Exports.{lent_with, LastingWords, LastingLent}
use Rattle.allowances.specs.KeptLaws.{Four, kept}
use Rattle.fields.specs.declared.Field.{Field}

-- ---- parameters are read and written beside the allowance

real-beside : (k : ℕ) → 5 ≢ k → (x : Float) (words : List ℕ) (b : ℕ) → with_real k x (set words 5 b) ≡ set (with_real k x words) 5 b
real-beside k n x words b = set_comm words 5 k b (to_bits binary64 x) n

optional-beside : (v : Option Float) (words : List ℕ) (b : ℕ) → with_optional v (set words 5 b) ≡ set (with_optional v words) 5 b
optional-beside None words b = refl
optional-beside (Some x) words b = real-beside 14 (λ e. absurd (omega arith)) x words b

speciation-beside : (v : Speciation) (words : List ℕ) (b : ℕ) → with_speciation v (set words 5 b) ≡ set (with_speciation v words) 5 b
speciation-beside (Yule rate) words b = real-beside 14 (λ e. absurd (omega arith)) rate words b
speciation-beside (BirthDeath difference death) words b =
    ap (with_real 15 death) (real-beside 14 (λ e. absurd (omega arith)) difference words b)
    ∙ real-beside 15 (λ e. absurd (omega arith)) death (with_real 14 difference words) b

process-beside : (p : FossilizedBirthDeath) (words : List ℕ) (b : ℕ) → with_process p (set words 5 b) ≡ set (with_process p words) 5 b
process-beside p words b =
    stores-beside
    (to_bits binary64 p.birth
    ∷ to_bits binary64 p.death
    ∷ to_bits binary64 p.fossil_sampling
    ∷ to_bits binary64 p.present_sampling
    ∷ to_bits binary64 p.origin
    ∷ [])
    words 13 5 b (λ j p q e. absurd (omega arith))

process-same : (words : List ℕ) (b : ℕ) → process_in (set words 5 b) ≡ process_in words
process-same words b = rw (elsewhere words b 13 tt, elsewhere words b 14 tt, elsewhere words b 15 tt, elsewhere words b 16 tt, elsewhere words b 17 tt)

priors-same : (words : List ℕ) (b : ℕ) → priors_in (set words 5 b) ≡ priors_in words
priors-same words b =
    rw (
      elsewhere words b 18 tt,
      elsewhere words b 19 tt,
      elsewhere words b 20 tt,
      elsewhere words b 21 tt,
      elsewhere words b 22 tt,
      elsewhere words b 23 tt,
      elsewhere words b 24 tt,
      elsewhere words b 25 tt,
      elsewhere words b 26 tt,
      elsewhere words b 27 tt,
      elsewhere words b 28 tt,
    )

-- ---- the generator that a call leaves

value-four : {P : Type 0} (limits : Bool) (program : Draw (Change P)) (v : P) (words : List ℕ) (a : ℕ) → Four (value_call limits program v (generator_in words) a).random
value-four limits program v words a =
    rw (value-steps limits program v (generator_in words) a) (after-four (draws_in (value_call limits program v (generator_in words) a).answer) (generator_in words) refl)

age-four : (minima maxima : List Float) (p : FossilizedBirthDeath) (t : Tree) (words : List ℕ) (a : ℕ) → Four (tip_age_call minima maxima p t (generator_in words) a).random
age-four minima maxima p t words a =
    rw (age-steps minima maxima p t (generator_in words) a) (after-four (draws_of (tip_age_call minima maxima p t (generator_in words) a).answer) (generator_in words) refl)

-- ---- a call on parameters, with where they are written

module _ {P : Type 0} (write : P → List ℕ → List ℕ) (aside : (v : P) (words : List ℕ) (b : ℕ) → write v (set words 5 b) ≡ set (write v words) 5 b) where
  left-beside : (p : Proposal) (g : Random) (v : P) (words : List ℕ) (b : ℕ) → Four g → proposed_left write p g v (set words 5 b) ≡ written_with b (proposed_left write p g v words)
  unfolding proposed_left
  left-beside (Proposals.Scaled draws r) g v words b four =
      ap (proposed (Proposals.Scaled draws r) g) (aside v words b) ∙ proposed-beside b (Proposals.Scaled draws r) g (write v words) four
  left-beside (Proposals.Declined draws) g v words b four = proposed-beside b (Proposals.Declined draws) g words four
  left-beside (Proposals.Refused why) g v words b four = proposed-beside b (Proposals.Refused why) g words four

  left-tells : (p : Proposal) (g : Random) (v : P) (words : List ℕ) → 32 ≤ length words → proposal_number p ≡ 6 → written_number (proposed_left write p g v words) ≡ 6
  unfolding proposed_left
  left-tells (Proposals.Scaled draws r) g v words long e = absurd (omega arith)
  left-tells (Proposals.Declined draws) g v words long e = absurd (omega arith)
  left-tells (Proposals.Refused why) g v words long e = proposed-tells words long (Proposals.Refused why) g e

  value-exported : (limits : Bool) (program : Draw (Change P)) (v : P) (words : List ℕ) (b : ℕ) → 1 ≤ word_in words 5 → word_in words 5 ≤ b → b ≤ 65535
      → written_number (on_record words (call_left write (value_call limits program v) words)) ≢ 6
      → on_record (set words 5 b) (call_left write (value_call limits program v) (set words 5 b)) ≡ written_with b (on_record words (call_left write (value_call limits program v) words))
  unfolding call_left
  value-exported limits program v words b h o k n =
      rw (record_same words b, generator-same words b, put-read words b h k)
      (kept (λ c. proposal_number c.answer) (value_call limits program v (generator_in words)) (value-lasting limits program v (generator_in words))
      written_number written_with (λ c w. proposed_left write c.answer c.random c.value w) (written no_record) words b
      (let c = value_call limits program v (generator_in words) (allowance_in words) in record {
        beside = left-beside c.answer c.random c.value words b (value-four limits program v words (allowance_in words));
        bare = refl;
        tells = left-tells c.answer c.random c.value words;
      })
      h o k n)

-- ---- each

pub scale-exported : LastingWords scale_exported
scale-exported words b h o k n =
    let x = real_in words 13 in
    let upper = real_in words 14 in
    let s = tuning_in words in
    rw (elsewhere words b 13 tt, elsewhere words b 14 tt, elsewhere words b 7 tt)
    (value-exported (with_real 13) (real-beside 13 (λ e. absurd (omega arith))) (Scales.scale_limits x upper s) (Scales.scale x upper s) x words b h o k n)

pub clock-rate-exported : LastingWords clock_rate_exported
clock-rate-exported words b h o k n =
    let mean = optional_in words 13 14 in
    let s = tuning_in words in
    rw (elsewhere words b 13 tt, elsewhere words b 14 tt, elsewhere words b 7 tt)
    (value-exported with_optional optional-beside (Scales.clock_rate_limits mean s) (Scales.clock_rate mean s) mean words b h o k n)

pub birth-difference-exported : LastingWords birth_difference_exported
birth-difference-exported words b h o k n =
    let p = speciation_in words in
    let upper = real_in words 16 in
    let s = tuning_in words in
    rw (elsewhere words b 13 tt, elsewhere words b 14 tt, elsewhere words b 15 tt, elsewhere words b 16 tt, elsewhere words b 7 tt)
    (value-exported with_speciation speciation-beside (Scales.speciation_limits p upper s) (Scales.birth_difference p upper s) p words b h o k n)

pub birth-rate-exported : LastingWords birth_rate_exported
birth-rate-exported words b h o k n =
    let p = speciation_in words in
    let upper = real_in words 16 in
    let s = tuning_in words in
    rw (elsewhere words b 13 tt, elsewhere words b 14 tt, elsewhere words b 15 tt, elsewhere words b 16 tt, elsewhere words b 7 tt)
    (value-exported with_speciation speciation-beside (Scales.speciation_limits p upper s) (Scales.birth_rate p upper s) p words b h o k n)

pub relative-death-exported : LastingWords relative_death_exported
relative-death-exported words b h o k n =
    let p = speciation_in words in
    let s = tuning_in words in
    rw (elsewhere words b 13 tt, elsewhere words b 14 tt, elsewhere words b 15 tt, elsewhere words b 7 tt)
    (value-exported with_speciation speciation-beside (Scales.speciation_limits p one s) (Scales.relative_death p s) p words b h o k n)

pub clock-sigma-exported : (rates : List Float) → LastingWords (clock_sigma_exported rates)
clock-sigma-exported rates words b h o k n =
    let sigma = optional_in words 13 14 in
    let s = tuning_in words in
    rw (elsewhere words b 13 tt, elsewhere words b 14 tt, elsewhere words b 7 tt)
    (value-exported with_optional optional-beside (Clocks.clock_limits sigma rates s) (Clocks.clock_sigma sigma s) sigma words b h o k n)

pub branch-rate-exported : (rates : List Float) → LastingLent (branch_rate_scale_exported rates)
unfolding rates_left
branch-rate-exported rates words b h o k n =
    let sigma = optional_in words 13 14 in
    let s = tuning_in words in
    let g = generator_in words in
    rw (elsewhere words b 13 tt, elsewhere words b 14 tt, elsewhere words b 7 tt, record_same words b, generator-same words b, put-read words b h k)
    (kept (λ c. proposal_number c.answer) (Clocks.branch_rate_call sigma rates s g) (lasting-calls.branch-rate sigma rates s g)
    (λ l. written_number l.written) lent_with rates_left (λ w. lent (written no_record w) rates) words b
    (let c = Clocks.branch_rate_call sigma rates s g (allowance_in words) in record {
      beside = ap (λ (w : Written). lent w c.value)
          (proposed-beside b c.answer c.random words (value-four (Clocks.clock_limits sigma rates s) (Clocks.branch_rate sigma rates s) rates words (allowance_in words)));
      bare = refl;
      tells = λ long. proposed-tells words long c.answer c.random;
    })
    h o k n)

pub fbd-exported : LastingWords fbd_exported
unfolding chosen_left
fbd-exported words b h o k n = rw (elsewhere words b 6 tt) (go (chosen_in words) n)
  where
    go : (c : Option Field) → written_number (on_record words (chosen_left c words)) ≢ 6 → on_record (set words 5 b) (chosen_left c (set words 5 b)) ≡ written_with b (on_record words (chosen_left c words))
    go (Some field) n =
        let priors = priors_in words in
        let p = process_in words in
        let offset = real_in words 29 in
        let s = tuning_in words in
        rw (process-same words b, priors-same words b, elsewhere words b 29 tt, elsewhere words b 7 tt)
        (value-exported with_process process-beside (Fields.fbd_limits priors p offset s) (Fields.fbd field priors p offset s) p words b h o k n)
    go None n = rw (record_same words b) (none_left (is_record words))
      where
        none_left : (r : Bool) → cond r (replied (refused_reply (Parameter 0)) (set words 5 b)) (written no_record (set words 5 b))
            ≡ written_with b (cond r (replied (refused_reply (Parameter 0)) words) (written no_record words))
        none_left true = replied-beside b (refused_reply (Parameter 0)) words
        none_left false = refl

-- ---- TipAge

pub tip-age-exported : (pairs parents : List ℕ) (heights minima maxima : List Float) → LastingLent (tip_age_exported pairs parents heights minima maxima)
unfolding aged_left
tip-age-exported pairs parents heights minima maxima words b h o k n =
    let p = process_in words in
    let t = tree_in pairs parents heights words in
    let g = generator_in words in
    rw (process-same words b, root-same words b, record_same words b, generator-same words b, put-read words b h k)
    (kept (λ c. answer_number c.answer) (tip_age_call minima maxima p t g) (lasting-calls.tip_age minima maxima p t g)
    (λ l. written_number l.written) lent_with aged_left (λ w. lent (written no_record w) heights) words b
    (let c = tip_age_call minima maxima p t g (allowance_in words) in record {
      beside = ap (λ (w : Written). lent w c.heights) (answered-beside b c.answer c.random words (age-four minima maxima p t words (allowance_in words)));
      bare = refl;
      tells = λ long. answered-tells words long c.answer c.random;
    })
    h o k n)
