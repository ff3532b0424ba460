-- The ways through the scales of a clock: a value that stays positive (`positive_laws`), ClockSigmaScale (`sigma_laws`), a rate by its
-- index (`rate_scale_laws`), and BranchRateScale (`branch_laws`). Assumes nothing.
use mathlib.Core.Path.{◌≡◌, refl, sym, ap, ◌∙◌}
use mathlib.Core.Bool.{Bool, true, false, ◌&&◌, cond}
use mathlib.Core.List.{List}
use Prim.Native.Nat.{ℕ, ◌-◌, ◌≤◌, ◌<◌}
use native.Mathlib.Omega.{arith}
use lib.ListN.{length, get_or, set}
use lib.IntN.{negsuc}
use lib.Ieee.{Float, nan, binary64, mul}
use Rattle.answer.specs.declared.Refusal.TheVariants.{Parameter, Allowance}
use Rattle.answer.specs.declared.Ratio.TheVariants.{Power}
use Rattle.answer.specs.declared.Proposal.{Proposal}
use Rattle.answer.specs.declared.Proposal.TheVariants as Proposals
use Rattle.random.specs.declared.Random.{Random}
use Rattle.random.specs.declared.Supply.{Supply}
use Rattle.random.specs.Draw.{below, uniform, got, pick, run, supply_of, allowed, drawn}
use Rattle.random.proofs.DrawLaws.{pick-lawful, draw-got, draw-spent, bind-got, bind-spent, below-yields}
use Rattle.random.specs.SupplyLaws.{drawn-got, drawn-spent}
use Rattle.real.specs.Real.{positive}
use Rattle.calls.specs.Change.{declined, scaled, in_place, on_part, proposed, value_call}
use Rattle.calls.proofs.ChangeLaws.{put_in, value-limits, value-spent, value-declined, value-scaled, value-part}
use Rattle.calls.specs.Draws.{scaler, tuned}
use Rattle.rates.specs.Clock.{clock_fits}
use Rattle.scales.specs.declared.Scaled.{Scaled}
use Rattle.clocks.specs.declared.RatesScaled.{RatesScaled}
use Rattle.clocks.specs.Clocks.{clock_limits, positively, clock_sigma, clock_sigma_call, branch_rate_of, branch_rate, branch_rate_call}
use Rattle.scales.specs.Given.{undrawn_of, turned_back, settled}
use Rattle.clocks.specs.Given.{rates_after}
use Rattle.scales.specs.SettledLaws.{factored-got, factored-spent, uniform-left, call-left, settled-call, undrawn-call}
use Rattle.std.specs.Prelude.{Option, Some, None}

-- ---- a value that stays positive

module _ (limits : Bool) (value tuning : Float) (g : Random) (allowance : ℕ) (a : Bool) (ea : a ≡ (limits && allowed allowance)) where
  pub positive-limits : a ≡ false → (r : Scaled Float) → r ≡ turned_back (Parameter 0) value g
      → proposed r.proposal r.random r.value ≡ value_call limits (positively value tuning) value g allowance
  positive-limits h r er = rw er (value-limits limits (positively value tuning) value g allowance (rw (← ea, h)))

  module _ (ha : a ≡ true) where
    holds : limits && allowed allowance ≡ true
    holds = rw (← ea, ha)

    pub positive-spent : None ≡ drawn (run uniform (supply_of g allowance)) → (r : Scaled Float) → r ≡ turned_back (Allowance allowance) value g
        → proposed r.proposal r.random r.value ≡ value_call limits (positively value tuning) value g allowance
    positive-spent e r er =
        rw er (value-spent limits (positively value tuning) value g allowance holds
        (factored-spent tuning (mul binary64 value) positive (supply_of g allowance) e))

    -- v is the uniform that was drawn, and u the supply after it
    pub positive-settled : (v : Float) (u : Supply) → Some (v, u) ≡ drawn (run uniform (supply_of g allowance))
        → (f : Float) → f ≡ scaler tuning v → (b : Bool) → b ≡ positive (mul binary64 value f)
        → (r : Scaled Float) → r ≡ settled b (mul binary64 value f) value f allowance u
        → proposed r.proposal r.random r.value ≡ value_call limits (positively value tuning) value g allowance
    positive-settled v u e f ef b eb r er =
        settled-call limits (positively value tuning) value g allowance holds b (mul binary64 value f) f u
        (rw eb (factored-got tuning (mul binary64 value) positive (supply_of g allowance) v u e f ef)) r er

pub ruleset positive_laws = (positive-limits, call-left, positive-spent, positive-settled)

-- ---- ClockSigmaScale

module _ (sigma : Option Float) (rates : List Float) (tuning : Float) (g : Random) (allowance : ℕ) where
  pub sigma_missing : sigma ≡ None → (a : Bool) → a ≡ tuned tuning → (b : Bool) → b ≡ (a && allowed allowance) → (p : Proposal) → p ≡ undrawn_of b
      → proposed p g None ≡ clock_sigma_call sigma rates tuning g allowance
  unfolding clock_sigma clock_limits
  sigma_missing e a ea b eb p ep =
      rw e (undrawn-call (tuned tuning) (clock_sigma None tuning) None g allowance refl b (rw (eb, ea)) p ep)

  pub sigma-given : (x : Float) → sigma ≡ Some x → (l : Bool) → l ≡ (tuned tuning && clock_fits x rates) → (r : Scaled Float)
      → proposed r.proposal r.random r.value ≡ value_call l (positively x tuning) x g allowance
      → proposed r.proposal r.random (Some r.value) ≡ clock_sigma_call sigma rates tuning g allowance
  unfolding clock_sigma clock_limits
  sigma-given x e l el r er =
      rw (e, ← el) (ap (put_in Some) er ∙ sym (value-part Some l (positively x tuning) x g allowance))

pub ruleset sigma_laws = (sigma_missing, sigma-given)

-- ---- a rate by its index

-- the index is one of the rates'
pub index_in : (rates : List Float) (s : Supply) (i : ℕ) (u : Supply) → Some (i, u) ≡ drawn (pick (below (length rates)) s) → i < length rates
index_in rates s i u e = below-yields (length rates) s i u (drawn-got (pick (below (length rates)) s) i u e)

module _ (limits : Bool) (rates : List Float) (tuning : Float) (g : Random) (allowance : ℕ) (a : Bool) (ea : a ≡ (limits && allowed allowance)) where
  pub rate-limits : a ≡ false → (r : RatesScaled) → r ≡ rates_after (Proposals.Refused (Parameter 0)) g
      → proposed r.proposal r.random rates ≡ value_call limits (branch_rate_of rates tuning) rates g allowance
  rate-limits h r er = rw er (value-limits limits (branch_rate_of rates tuning) rates g allowance (rw (← ea, h)))

  module _ (ha : a ≡ true) where
    passes : limits && allowed allowance ≡ true
    passes = rw (← ea, ha)

    pub rate_spent : None ≡ drawn (pick (below (length rates)) (supply_of g allowance)) → (r : RatesScaled) → r ≡ rates_after (Proposals.Refused (Allowance allowance)) g
        → proposed r.proposal r.random rates ≡ value_call limits (branch_rate_of rates tuning) rates g allowance
    unfolding branch_rate_of
    rate_spent e r er =
        rw er (value-spent limits (branch_rate_of rates tuning) rates g allowance passes
        (draw-spent (below (length rates)) _ (supply_of g allowance) (drawn-spent (pick (below (length rates)) (supply_of g allowance)) e)))

    -- i is the index that was drawn, and s the supply after it
    module _ (i : ℕ) (s : Supply) (ei : Some (i, s) ≡ drawn (pick (below (length rates)) (supply_of g allowance))) where
      index-got : pick (below (length rates)) (supply_of g allowance) ≡ got i s
      index-got = drawn-got (pick (below (length rates)) (supply_of g allowance)) i s ei

      -- the call's program, from the drawn index on
      indexed : run (branch_rate_of rates tuning) (supply_of g allowance) ≡ run (on_part (set rates i) (positively (get_or rates i nan) tuning)) s
      unfolding branch_rate_of
      indexed = draw-got (below (length rates)) _ (supply_of g allowance) i s index-got

      pub rate-spent-later : None ≡ drawn (run uniform s) → (r : RatesScaled) → r ≡ rates_after (Proposals.Refused (Allowance allowance)) g
          → proposed r.proposal r.random rates ≡ value_call limits (branch_rate_of rates tuning) rates g allowance
      unfolding on_part
      rate-spent-later e r er =
          rw er (value-spent limits (branch_rate_of rates tuning) rates g allowance passes
          (indexed ∙ bind-spent (positively (get_or rates i nan) tuning) _ s
          (factored-spent tuning (mul binary64 (get_or rates i nan)) positive s e)))

      -- v is the uniform that was drawn, and u the supply after it
      module _ (v : Float) (u : Supply) (e : Some (v, u) ≡ drawn (run uniform s)) where
        pub rate-left : u.left ≤ allowance
        rate-left =
            let p = ((pick-lawful (below (length rates))).steps (supply_of g allowance) i s index-got).fewer in
            let q = uniform-left s v u e in
            omega arith

        module _ (f : Float) (ef : f ≡ scaler tuning v) (b : Bool) (eb : b ≡ positive (mul binary64 (get_or rates i nan) f)) where
          ran : run (branch_rate_of rates tuning) (supply_of g allowance)
              ≡ got (in_place (set rates i) (cond b (scaled (mul binary64 (get_or rates i nan) f) (Power f (negsuc 0))) declined)) u
          unfolding on_part run
          ran =
              indexed ∙ rw eb (bind-got (positively (get_or rates i nan) tuning) _ s _ u
              (factored-got tuning (mul binary64 (get_or rates i nan)) positive s v u e f ef))

          pub rate-scaled : b ≡ true → proposed (Proposals.Scaled (allowance - u.left) (Power f (negsuc 0))) u.random (set rates i (mul binary64 (get_or rates i nan) f))
              ≡ value_call limits (branch_rate_of rates tuning) rates g allowance
          rate-scaled h = value-scaled limits (branch_rate_of rates tuning) rates g allowance passes u _ (Power f (negsuc 0)) (rw h at ran)

          pub rate-declined : b ≡ false → proposed (Proposals.Declined (allowance - u.left)) u.random rates ≡ value_call limits (branch_rate_of rates tuning) rates g allowance
          rate-declined h = value-declined limits (branch_rate_of rates tuning) rates g allowance passes u (rw h at ran)

pub ruleset rate_scale_laws = (rate-limits, index_in, rate_spent, rate-spent-later, rate-left, rate-scaled, rate-declined)

-- ---- BranchRateScale

module _ (sigma : Option Float) (rates : List Float) (tuning : Float) (g : Random) (allowance : ℕ) where
  pub branch-missing : sigma ≡ None → (a : Bool) → a ≡ tuned tuning → (b : Bool) → b ≡ (a && allowed allowance) → (p : Proposal) → p ≡ undrawn_of b
      → proposed p g rates ≡ branch_rate_call sigma rates tuning g allowance
  unfolding branch_rate clock_limits
  branch-missing e a ea b eb p ep =
      rw e (undrawn-call (tuned tuning) (branch_rate None rates tuning) rates g allowance refl b (rw (eb, ea)) p ep)

  pub branch-given : (x : Float) → sigma ≡ Some x → (l : Bool) → l ≡ (tuned tuning && clock_fits x rates) → (r : RatesScaled) (after : List Float)
      → proposed r.proposal r.random after ≡ value_call l (branch_rate_of rates tuning) rates g allowance
      → proposed r.proposal r.random after ≡ branch_rate_call sigma rates tuning g allowance
  unfolding branch_rate clock_limits
  branch-given x e l el r after er = rw (e, ← el) er

pub ruleset branch_laws = (branch-missing, branch-given)
