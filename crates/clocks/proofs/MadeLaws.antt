-- What the answers of the scales of a clock come from: a call that scaled has drawn a factor (for BranchRateScale, the index of a rate before it) that leaves a finite,
-- positive value (`sigma-made`, `rate-made`), and one that declined has no clock or has drawn one that does not (`sigma-unmade`, `rate-unmade`). Assumes nothing.
use Rattle.std.specs.Prelude.{◌≡◌, ◌⊎◌, ℕ, ◌<◌, get_or, set, Float, Option, Some, None}
use Rattle.std.proofs.Math.Path.{refl}
use Rattle.std.proofs.Math.Logic.{inl, inr}
use mathlib.Core.List.{List}
use Rattle.std.proofs.Math.ListN.{length}
use Rattle.std.specs.Float.{nan}
use Rattle.std.specs.Float.Ieee.{binary64, mul}
use Rattle.answer.specs.declared.Ratio.{Ratio}
use Rattle.answer.specs.declared.Proposal.TheVariants as Proposals
use Rattle.random.specs.declared.Random.{Random}
use Rattle.random.specs.Draw.{below, run, supply_of}
use Rattle.random.specs.Lawful.{Yields}
use Rattle.random.proofs.DrawLaws.{below-yields}
use Rattle.real.specs.Real.{positive}
use Rattle.calls.specs.Change.{Change, declined, scaled}
use Rattle.calls.proofs.RunLaws.{clash}
use Rattle.calls.proofs.ChangeLaws.{value_made, value-unmade}
use Rattle.calls.specs.StepLaws.{number-yields}
use Rattle.scales.specs.Scalings.{Declines, Placed, PartScales}
use Rattle.scales.proofs.ScalingLaws.{placed-yields, placed-made, placed-unmade}
use Rattle.clocks.specs.Clocks.{clock_limits, clock_sigma, clock_sigma_call, branch_rate_of, branch_rate, branch_rate_call}

-- ---- ClockSigmaScale

module _ (rates : List Float) (tuning : Float) (g : Random) (a : ℕ) where
  -- a call that scaled was given a sigma, and left it times a factor
  pub sigma-made : (sigma : Option Float) (draws : ℕ) (r : Ratio) → (clock_sigma_call sigma rates tuning g a).answer ≡ Proposals.Scaled draws r
      → (x : Float) × (sigma ≡ Some x) × PartScales Some tuning (mul binary64 x) positive (clock_sigma_call sigma rates tuning g a).value r
  unfolding clock_sigma run
  sigma-made None draws r q =
      let c = value_made (clock_limits None rates tuning) (clock_sigma None tuning) None g a draws r q in
      let e = c.ran in
      clash cc
  sigma-made (Some x) draws r q =
      let c = value_made (clock_limits (Some x) rates tuning) (clock_sigma (Some x) tuning) (Some x) g a draws r q in
      (x, refl, placed-made Some tuning (mul binary64 x) positive (placed-yields Some tuning (mul binary64 x) positive (supply_of g a) _ c.supply c.ran))

  -- one that declined has no clock, or has drawn a factor for which sigma times it is not finite and positive
  pub sigma-unmade : (sigma : Option Float) (draws : ℕ) → (clock_sigma_call sigma rates tuning g a).answer ≡ Proposals.Declined draws
      → (sigma ≡ None) ⊎ ((x : Float) × (sigma ≡ Some x) × Declines tuning (mul binary64 x) positive)
  unfolding clock_sigma
  sigma-unmade None draws q = inl refl
  sigma-unmade (Some x) draws q =
      let c = value-unmade (clock_limits (Some x) rates tuning) (clock_sigma (Some x) tuning) (Some x) g a draws q in
      inr (x, refl, placed-unmade Some tuning (mul binary64 x) positive (placed-yields Some tuning (mul binary64 x) positive (supply_of g a) _ c.supply c.ran))

-- ---- BranchRateScale

-- rate i is the one that a factor scales: what the change was
pub data RateChange (rates : List Float) (tuning : Float) : Change (List Float) → Type 0 where
  at_index : {c : Change (List Float)} (i : ℕ) → i < length rates → Placed (set rates i) tuning (mul binary64 (get_or rates i nan)) positive c → RateChange rates tuning c

module _ (rates : List Float) (tuning : Float) (g : Random) (a : ℕ) where
  indexed-yields : Yields (RateChange rates tuning) (run (branch_rate_of rates tuning))
  unfolding branch_rate_of
  indexed-yields =
      number-yields (RateChange rates tuning) (below (length rates)) _ (below-yields (length rates))
      (λ i l s c u e. at_index i l (placed-yields (set rates i) tuning (mul binary64 (get_or rates i nan)) positive s c u e))

  -- a call that scaled was given a clock, and left one of its rates times a factor
  pub rate-made : (sigma : Option Float) (draws : ℕ) (r : Ratio) → (branch_rate_call sigma rates tuning g a).answer ≡ Proposals.Scaled draws r
      → (x : Float) × (sigma ≡ Some x)
      × (i : ℕ) × (i < length rates) × PartScales (set rates i) tuning (mul binary64 (get_or rates i nan)) positive (branch_rate_call sigma rates tuning g a).value r
  unfolding branch_rate run
  rate-made None draws r q =
      let c = value_made (clock_limits None rates tuning) (branch_rate None rates tuning) rates g a draws r q in
      let e = c.ran in
      clash cc
  rate-made (Some x) draws r q =
      let c = value_made (clock_limits (Some x) rates tuning) (branch_rate (Some x) rates tuning) rates g a draws r q in
      go (indexed-yields (supply_of g a) _ c.supply c.ran)
    where
      go : {w : List Float} → RateChange rates tuning (scaled w r)
          → (y : Float) × (Some x ≡ Some y) × (i : ℕ) × (i < length rates) × PartScales (set rates i) tuning (mul binary64 (get_or rates i nan)) positive w r
      go (at_index i l p) = (x, refl, i, l, placed-made (set rates i) tuning (mul binary64 (get_or rates i nan)) positive p)

  -- one that declined has no clock, or has drawn an index and a factor for which the rate times it is not finite and positive
  pub rate-unmade : (sigma : Option Float) (draws : ℕ) → (branch_rate_call sigma rates tuning g a).answer ≡ Proposals.Declined draws
      → (sigma ≡ None) ⊎ ((i : ℕ) × (i < length rates) × Declines tuning (mul binary64 (get_or rates i nan)) positive)
  unfolding branch_rate
  rate-unmade None draws q = inl refl
  rate-unmade (Some x) draws q =
      let c = value-unmade (clock_limits (Some x) rates tuning) (branch_rate (Some x) rates tuning) rates g a draws q in
      inr (go (indexed-yields (supply_of g a) _ c.supply c.ran))
    where
      go : RateChange rates tuning declined → (i : ℕ) × (i < length rates) × Declines tuning (mul binary64 (get_or rates i nan)) positive
      go (at_index i l p) = (i, l, placed-unmade (set rates i) tuning (mul binary64 (get_or rates i nan)) positive p)
