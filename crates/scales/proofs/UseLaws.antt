-- The ways through the uses of `scale`: ClockRateScale (`clock_rate_laws`) and the scales of speciation. Assumes nothing.
use mathlib.Core.Path.{◌≡◌, refl, sym, ap, ◌∙◌}
use mathlib.Core.Bool.{Bool, true, false, ◌&&◌}
use Prim.Native.Nat.{ℕ}
use lib.Ieee.{Float}
use lib.Ieee.Scale.{finite}
use Rattle.answer.specs.declared.Refusal.TheVariants.{Parameter}
use Rattle.answer.specs.declared.Proposal.{Proposal}
use Rattle.answer.specs.declared.Proposal.TheVariants as Proposals
use Rattle.random.specs.declared.Random.{Random}
use Rattle.random.specs.Draw.{Draw, allowed}
use Rattle.real.specs.Real.{one, is_not_negative}
use Rattle.calls.specs.Change.{Change, proposed, value_call}
use Rattle.calls.proofs.ChangeLaws.{put_in, value-part, value-limits}
use Rattle.calls.specs.Draws.{tuned}
use Rattle.speciation.specs.declared.Speciation.{Speciation}
use Rattle.speciation.specs.declared.Speciation.TheVariants.{Yule, BirthDeath}
use Rattle.scales.specs.declared.Scaled.{Scaled}
use Rattle.scales.specs.Scales.{scale, scale_limits, scale_call, largest, clock_rate, clock_rate_limits, clock_rate_call, speciation_limits, birth_difference, birth_difference_call, birth_rate, birth_rate_call, relative_death, relative_death_call}
use Rattle.scales.specs.Given.{undrawn_of, turned_back}
use Rattle.scales.specs.SettledLaws.{undrawn-call}
use Rattle.std.specs.Prelude.{Option, Some, None}

-- ---- ClockRateScale

module _ (mean : Option Float) (tuning : Float) (g : Random) (allowance : ℕ) where
  pub clock-rate-missing : mean ≡ None → (a : Bool) → a ≡ tuned tuning → (b : Bool) → b ≡ (a && allowed allowance) → (p : Proposal) → p ≡ undrawn_of b
      → proposed p g None ≡ clock_rate_call mean tuning g allowance
  unfolding clock_rate clock_rate_limits
  clock-rate-missing e a ea b eb p ep =
      rw e (undrawn-call (tuned tuning) (clock_rate None tuning) None g allowance refl b (rw (eb, ea)) p ep)

  pub clock-rate-given : (x : Float) → mean ≡ Some x → (r : Scaled Float) → proposed r.proposal r.random r.value ≡ scale_call x largest tuning g allowance
      → proposed r.proposal r.random (Some r.value) ≡ clock_rate_call mean tuning g allowance
  unfolding clock_rate clock_rate_limits
  clock-rate-given x e r er =
      rw e (ap (put_in Some) er ∙ sym (value-part Some (scale_limits x largest tuning) (scale x largest tuning) x g allowance))

pub ruleset clock_rate_laws = (clock-rate-missing, clock-rate-given)

-- ---- the scales of speciation

and-true : (a : Bool) → (a && true) ≡ a
and-true true = refl
and-true false = refl

and-false : (a : Bool) → (a && false) ≡ false
and-false true = refl
and-false false = refl

module _ (s : Speciation) (tuning : Float) (g : Random) (allowance : ℕ) where
  -- a birth–death process with a rate that is not finite is outside its limits
  module _ (difference death : Float) (e : s ≡ BirthDeath difference death) (upper : Float) (program : Draw (Change Speciation)) where
    death-outside : finite death ≡ false → proposed (Proposals.Refused (Parameter 0)) g (BirthDeath difference death) ≡ value_call (speciation_limits s upper tuning) program s g allowance
    unfolding speciation_limits
    death-outside h =
        rw e (value-limits _ program (BirthDeath difference death) g allowance (rw (h, and-false (tuned tuning && is_not_negative upper && finite difference))))

    difference-outside : finite difference ≡ false
        → proposed (Proposals.Refused (Parameter 0)) g (BirthDeath difference death) ≡ value_call (speciation_limits s upper tuning) program s g allowance
    unfolding speciation_limits
    difference-outside h =
        rw e (value-limits _ program (BirthDeath difference death) g allowance (rw (h, and-false (tuned tuning && is_not_negative upper))))

  module _ (upper : Float) where
    module _ (rate : Float) (e : s ≡ Yule rate) where
      pub difference_yule : (b : Bool) → b ≡ (scale_limits rate upper tuning && allowed allowance) → (p : Proposal) → p ≡ undrawn_of b
          → proposed p g (Yule rate) ≡ birth_difference_call s upper tuning g allowance
      unfolding birth_difference speciation_limits scale_limits
      difference_yule b eb p ep =
          rw e (undrawn-call (tuned tuning && is_not_negative upper && finite rate) (birth_difference (Yule rate) upper tuning) (Yule rate) g allowance refl b eb p ep)

      pub rate-yule : (r : Scaled Float) → proposed r.proposal r.random r.value ≡ scale_call rate upper tuning g allowance
          → proposed r.proposal r.random (Yule r.value) ≡ birth_rate_call s upper tuning g allowance
      unfolding birth_rate speciation_limits scale_limits
      rate-yule r er =
          rw e (ap (put_in Yule) er ∙ sym (value-part Yule (scale_limits rate upper tuning) (scale rate upper tuning) rate g allowance))

    module _ (difference death : Float) (e : s ≡ BirthDeath difference death) (a : Bool) (ea : a ≡ finite death) where
      pub difference-outside-limits : a ≡ false → (r : Scaled Speciation) → r ≡ turned_back (Parameter 0) (BirthDeath difference death) g
          → proposed r.proposal r.random r.value ≡ birth_difference_call s upper tuning g allowance
      difference-outside-limits h r er = rw er (death-outside difference death e upper (birth_difference s upper tuning) (rw (← ea, h)))

      pub rate-outside-limits : a ≡ false → (r : Scaled Speciation) → r ≡ turned_back (Parameter 0) (BirthDeath difference death) g
          → proposed r.proposal r.random r.value ≡ birth_rate_call s upper tuning g allowance
      rate-outside-limits h r er = rw er (death-outside difference death e upper (birth_rate s upper tuning) (rw (← ea, h)))

      -- the limits are those of the scale of the difference
      within-limits : a ≡ true → (tuned tuning && is_not_negative upper && finite difference && finite death) ≡ scale_limits difference upper tuning
      unfolding scale_limits
      within-limits h = rw (← ea, h) (and-true (tuned tuning && is_not_negative upper && finite difference))

      pub difference-scaled : a ≡ true → (r : Scaled Float) → proposed r.proposal r.random r.value ≡ scale_call difference upper tuning g allowance
          → proposed r.proposal r.random (BirthDeath r.value death) ≡ birth_difference_call s upper tuning g allowance
      unfolding birth_difference speciation_limits
      difference-scaled h r er =
          rw (e, within-limits h)
          (ap (put_in (λ x. BirthDeath x death)) er ∙ sym (value-part (λ x. BirthDeath x death) (scale_limits difference upper tuning) (scale difference upper tuning) difference g allowance))

      pub rate-birth-death : a ≡ true → (b : Bool) → b ≡ (scale_limits difference upper tuning && allowed allowance) → (p : Proposal) → p ≡ undrawn_of b
          → proposed p g (BirthDeath difference death) ≡ birth_rate_call s upper tuning g allowance
      unfolding birth_rate speciation_limits
      rate-birth-death h b eb p ep =
          rw (e, within-limits h) (undrawn-call (scale_limits difference upper tuning) (birth_rate (BirthDeath difference death) upper tuning) (BirthDeath difference death) g allowance refl b eb p ep)

  -- ---- RelativeDeathScale

  pub death_yule : (rate : Float) → s ≡ Yule rate → (b : Bool) → b ≡ (scale_limits rate one tuning && allowed allowance) → (p : Proposal) → p ≡ undrawn_of b
      → proposed p g (Yule rate) ≡ relative_death_call s tuning g allowance
  unfolding relative_death speciation_limits scale_limits
  death_yule rate e b eb p ep =
      rw e (undrawn-call (tuned tuning && is_not_negative one && finite rate) (relative_death (Yule rate) tuning) (Yule rate) g allowance refl b eb p ep)

  module _ (difference death : Float) (e : s ≡ BirthDeath difference death) (a : Bool) (ea : a ≡ finite difference) where
    pub death-outside-limits : a ≡ false → (r : Scaled Speciation) → r ≡ turned_back (Parameter 0) (BirthDeath difference death) g
        → proposed r.proposal r.random r.value ≡ relative_death_call s tuning g allowance
    death-outside-limits h r er = rw er (difference-outside difference death e one (relative_death s tuning) (rw (← ea, h)))

    pub death-scaled : a ≡ true → (r : Scaled Float) → proposed r.proposal r.random r.value ≡ scale_call death one tuning g allowance
        → proposed r.proposal r.random (BirthDeath difference r.value) ≡ relative_death_call s tuning g allowance
    unfolding relative_death speciation_limits scale_limits
    death-scaled h r er =
        let limits : (tuned tuning && is_not_negative one && finite difference && finite death) ≡ (tuned tuning && is_not_negative one && finite death) =
        rw (← ea, h, and-true (tuned tuning && is_not_negative one)) in
        rw (e, limits)
        (ap (put_in (BirthDeath difference)) er ∙ sym (value-part (BirthDeath difference) (scale_limits death one tuning) (scale death one tuning) death g allowance))
