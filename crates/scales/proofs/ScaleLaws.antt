-- The ways through `scale`. Assumes nothing.
use mathlib.Core.Path.{◌≡◌}
use mathlib.Core.Bool.{Bool, true, false, ◌&&◌}
use Prim.Native.Nat.{ℕ}
use lib.Ieee.{Float, binary64, eq, mul}
use Rattle.answer.specs.declared.Refusal.TheVariants.{Parameter, Allowance}
use Rattle.answer.specs.declared.Proposal.TheVariants as Proposals
use Rattle.random.specs.declared.Random.{Random}
use Rattle.random.specs.declared.Supply.{Supply}
use Rattle.random.specs.Draw.{uniform, run, supply_of, allowed, drawn}
use Rattle.real.specs.Real as Real
use Rattle.real.specs.Real.{is_not_negative}
use Rattle.rules.specs.Rules.{within}
use Rattle.calls.specs.Change.{proposed}
use Rattle.calls.proofs.ChangeLaws.{value-limits, value-spent, value-undrawn}
use Rattle.calls.specs.Draws.{scaler}
use Rattle.scales.specs.declared.Scaled.{Scaled}
use Rattle.std.specs.Prelude.{Some, None}
use Rattle.scales.specs.Scales.{scale, scale_limits, scale_call}
use Rattle.scales.specs.Given.{turned_back, settled}
use Rattle.scales.specs.SettledLaws.{factored-got, factored-spent, call-left, settled-call}

-- ---- the call

module _ (value upper tuning : Float) (g : Random) (allowance : ℕ) (a : Bool) (ea : a ≡ (scale_limits value upper tuning && allowed allowance)) where
  pub scale-limits : a ≡ false → (r : Scaled Float) → r ≡ turned_back (Parameter 0) value g → proposed r.proposal r.random r.value ≡ scale_call value upper tuning g allowance
  scale-limits h r er = rw er (value-limits (scale_limits value upper tuning) (scale value upper tuning) value g allowance (rw (← ea, h)))

  module _ (ha : a ≡ true) where
    holds : scale_limits value upper tuning && allowed allowance ≡ true
    holds = rw (← ea, ha)

    pub scale-zero : eq value Real.zero ≡ true → proposed (Proposals.Declined 0) g value ≡ scale_call value upper tuning g allowance
    unfolding scale
    scale-zero h = value-undrawn (scale_limits value upper tuning) (scale value upper tuning) value g allowance holds (rw h)

    module _ (h : eq value Real.zero ≡ false) where
      pub scale-spent : None ≡ drawn (run uniform (supply_of g allowance)) → (r : Scaled Float) → r ≡ turned_back (Allowance allowance) value g
          → proposed r.proposal r.random r.value ≡ scale_call value upper tuning g allowance
      unfolding scale
      scale-spent e r er =
          rw er (value-spent (scale_limits value upper tuning) (scale value upper tuning) value g allowance holds
          (rw h (factored-spent tuning (mul binary64 value) (λ x. within Real.zero x upper) (supply_of g allowance) e)))

      -- v is the uniform that was drawn, and u the supply after it
      pub scale-settled : (v : Float) (u : Supply) → Some (v, u) ≡ drawn (run uniform (supply_of g allowance))
          → (f : Float) → f ≡ scaler tuning v → (b : Bool) → b ≡ within Real.zero (mul binary64 value f) upper
          → (r : Scaled Float) → r ≡ settled b (mul binary64 value f) value f allowance u
          → proposed r.proposal r.random r.value ≡ scale_call value upper tuning g allowance
      unfolding scale
      scale-settled v u e f ef b eb r er =
          settled-call (scale_limits value upper tuning) (scale value upper tuning) value g allowance holds b (mul binary64 value f) f u
          (rw (h, eb) (factored-got tuning (mul binary64 value) (λ x. within Real.zero x upper) (supply_of g allowance) v u e f ef)) r er

pub ruleset scale_laws = (scale-limits, scale-zero, call-left, scale-spent, scale-settled)
