-- What a scale's answer comes from: drawing a factor ends as Scalings says (`factored-yields`), of a part too (`placed-yields`); so a call of `scale` that scaled has drawn a factor that its
-- line admits (`scale-made`), and one that declined was given a zero or has drawn a factor that the line does not admit (`scale-unmade`). One draw is always enough
-- for `scale` (`scale-enough`), and its factor is finite and positive (`scale-positive`). Assumes nothing.
use Rattle.std.specs.Prelude.{◌≡◌, ◌⊎◌, Bool, ◌&&◌, ℕ, ◌<◌, ℤ, negsuc, leb, Float}
use Rattle.std.proofs.Math.Path.{refl, sym, subst}
use Rattle.std.proofs.Common.{ap, ◌∙◌, leb-true}
use Rattle.std.proofs.Math.Logic.{inl, inr}
use Rattle.std.proofs.Math.Bool.{true, false, cond, and-eq-true_iff}
use Rattle.std.specs.Float.Ieee.{binary64, eq, mul}
use Rattle.std.specs.Float.Ieee.Scale.{finite}
use Rattle.answer.specs.declared.Refusal.TheVariants.{Allowance}
use Rattle.answer.specs.declared.Ratio.{Ratio}
use Rattle.answer.specs.declared.Ratio.TheVariants.{Power}
use Rattle.answer.specs.declared.Proposal.{Proposal}
use Rattle.answer.specs.declared.Proposal.TheVariants as Proposals
use Rattle.random.specs.declared.Random.{Random}
use Rattle.random.specs.declared.Supply.{Supply}
use Rattle.random.specs.Generator.{uniform_of}
use Rattle.random.specs.Draw.{return, uniform, run, got, supply_of, allowed}
use Rattle.random.specs.Lawful.{Yields}
use Rattle.random.proofs.DrawLaws.{bind-got, return-yields, bind-yields}
use Rattle.random.proofs.WordLaws.{taken-one}
use Rattle.real.specs.Real as Real
use Rattle.real.specs.Real.{positive, is_not_negative}
use Rattle.rules.specs.Rules.{within}
use Rattle.calls.specs.Change.{Change, declined, scaled, in_place, on_part, Proposed, proposed}
use Rattle.calls.proofs.RunLaws.{clash}
use Rattle.calls.proofs.ChangeLaws.{value-limits, value-declined, value-scaled, value_made, value-unmade}
use Rattle.calls.specs.Chosen.{Factor}
use Rattle.calls.specs.Draws.{tuned}
use Rattle.calls.specs.FactorLaws.{chosen-positive}
use Rattle.calls.specs.StepLaws.{cond-holds, factor-yields}
use Rattle.scales.specs.Scales.{factored, scale, scale_limits, scale_call}
use Rattle.scales.specs.Scalings.{Scales, Declines, Scaling, is_scaled, is_declined, Placed, is_placed, is_kept, PartScales}

-- ---- a factor

module _ (tuning : Float) (make : Float → Float) (admits : Float → Bool) where
  -- drawing a factor ends in what it makes, or declines
  pub factored-yields : Yields (Scaling tuning make admits) (run (factored tuning make admits))
  unfolding factored
  factored-yields = factor-yields (Scaling tuning make admits) tuning (λ f. cond (admits (make f)) (scaled (make f) (Power f (negsuc 0))) declined) ends
    where
      ends : (f : Float) → Factor tuning f → Scaling tuning make admits (cond (admits (make f)) (scaled (make f) (Power f (negsuc 0))) declined)
      ends f d =
          cond-holds (Scaling tuning make admits) (admits (make f)) {x = scaled (make f) (Power f (negsuc 0))} {y = declined}
          (λ e. is_scaled (record { factor = f; drawn = d; new = refl; admitted = e; ratio = refl }))
          (λ e. is_declined (record { factor = f; drawn = d; outside = e }))

  -- of a change, what it was
  pub scaling-made : {x : Float} {r : Ratio} → Scaling tuning make admits (scaled x r) → Scales tuning make admits x r
  scaling-made (is_scaled s) = s

  -- of none, why
  pub scaling-unmade : Scaling tuning make admits declined → Declines tuning make admits
  scaling-unmade (is_declined d) = d

-- ---- a part that is scaled

module _ {P : Type 0} (put : Float → P) (tuning : Float) (make : Float → Float) (admits : Float → Bool) where
  -- scaling a part ends as scaling it alone does
  pub placed-yields : Yields (Placed put tuning make admits) (run (on_part put (factored tuning make admits)))
  unfolding on_part
  placed-yields =
      bind-yields (Scaling tuning make admits) (Placed put tuning make admits) (factored tuning make admits) _ (factored-yields tuning make admits)
      (λ c s. return-yields (Placed put tuning make admits) (in_place put c) (go s))
    where
      go : {c : Change Float} → Scaling tuning make admits c → Placed put tuning make admits (in_place put c)
      go (is_scaled s) = is_placed s
      go (is_declined d) = is_kept d

  -- of a change of a part, what it was
  pub placed-made : {w : P} {r : Ratio} → Placed put tuning make admits (scaled w r) → PartScales put tuning make admits w r
  placed-made (is_placed s) = record { new = _; is = refl; scales = s }

  -- of none, why
  pub placed-unmade : Placed put tuning make admits declined → Declines tuning make admits
  placed-unmade (is_kept d) = d

-- ---- `scale`

module _ (value upper tuning : Float) (g : Random) (a : ℕ) where
  abbrev admits : Float → Bool
  admits x = within Real.zero x upper

  -- the run of the program, by whether the value is a zero
  ran : (c : Change Float) (u : Supply) → run (scale value upper tuning) (supply_of g a) ≡ got c u
      → ((eq value Real.zero ≡ true) × (c ≡ declined)) ⊎ Scaling tuning (mul binary64 value) admits c
  unfolding scale run
  ran c u = go (eq value Real.zero) refl
    where
      go : (b : Bool) → eq value Real.zero ≡ b → run (cond b (return declined) (factored tuning (mul binary64 value) admits)) (supply_of g a) ≡ got c u
          → ((eq value Real.zero ≡ true) × (c ≡ declined)) ⊎ Scaling tuning (mul binary64 value) admits c
      go true e q = let z : declined ≡ c = cc in inl (e, sym z)
      go false e q = inr (factored-yields tuning (mul binary64 value) admits (supply_of g a) c u q)

  -- a call that scaled has drawn a factor, and the value times it is from 0 to the upper end
  pub scale-made : (draws : ℕ) (r : Ratio) → (scale_call value upper tuning g a).answer ≡ Proposals.Scaled draws r
      → Scales tuning (mul binary64 value) (λ x. within Real.zero x upper) (scale_call value upper tuning g a).value r
  scale-made draws r q =
      let c = value_made (scale_limits value upper tuning) (scale value upper tuning) value g a draws r q in
      go (ran (scaled (scale_call value upper tuning g a).value r) c.supply c.ran)
    where
      go : {x : Float} → ((eq value Real.zero ≡ true) × (scaled x r ≡ declined)) ⊎ Scaling tuning (mul binary64 value) admits (scaled x r) → Scales tuning (mul binary64 value) admits x r
      go (inl p) = let e = p.1 in clash cc
      go (inr s) = scaling-made tuning (mul binary64 value) admits s

  -- a call that declined was given a zero, or has drawn a factor for which the value times it is not
  pub scale-unmade : (draws : ℕ) → (scale_call value upper tuning g a).answer ≡ Proposals.Declined draws
      → (eq value Real.zero ≡ true) ⊎ Declines tuning (mul binary64 value) (λ x. within Real.zero x upper)
  scale-unmade draws q =
      let c = value-unmade (scale_limits value upper tuning) (scale value upper tuning) value g a draws q in
      go (ran declined c.supply c.ran)
    where
      go : ((eq value Real.zero ≡ true) × (◌≡◌ {A = Change Float} declined declined)) ⊎ Scaling tuning (mul binary64 value) admits declined
          → (eq value Real.zero ≡ true) ⊎ Declines tuning (mul binary64 value) admits
      go (inl p) = inl p.0
      go (inr s) = inr (scaling-unmade tuning (mul binary64 value) admits s)

  -- where the limits hold the program's run is never spent
  drawn : 0 < a → (c : Change Float) × (u : Supply) × (run (scale value upper tuning) (supply_of g a) ≡ got c u)
  unfolding scale factored uniform run
  drawn h = go (eq value Real.zero)
    where
      go : (b : Bool) → (c : Change Float) × (u : Supply) × (run (cond b (return declined) (factored tuning (mul binary64 value) admits)) (supply_of g a) ≡ got c u)
      go true = (declined, supply_of g a, refl)
      go false = (_, _, bind-got uniform _ (supply_of g a) _ _ (taken-one uniform_of g a h))

  -- one draw is always enough for it
  pub scale-enough : (scale_call value upper tuning g a).answer ≡ Proposals.Refused (Allowance a) → ⊥
  scale-enough q = go (scale_limits value upper tuning && allowed a) refl
    where
      same : {p : Proposal} {h : Random} {w : Float} → proposed p h w ≡ scale_call value upper tuning g a → p ≡ Proposals.Refused (Allowance a)
      same e = ap (λ (x : Proposed Float). x.answer) e ∙ q

      after : scale_limits value upper tuning && allowed a ≡ true → (c : Change Float) (u : Supply) → run (scale value upper tuning) (supply_of g a) ≡ got c u → ⊥
      after f declined u e = let z = same (value-declined (scale_limits value upper tuning) (scale value upper tuning) value g a f u e) in clash cc
      after f (scaled x r) u e = let z = same (value-scaled (scale_limits value upper tuning) (scale value upper tuning) value g a f u x r e) in clash cc

      go : (b : Bool) → scale_limits value upper tuning && allowed a ≡ b → ⊥
      go true f =
          let l = leb-true 1 a ((and-eq-true_iff (leb 1 a) (leb a 65535)).0 ((and-eq-true_iff (scale_limits value upper tuning) (allowed a)).0 f).1).0 in
          let d = drawn l in
          after f d.0 d.1 d.2
      go false f = let z = same (value-limits (scale_limits value upper tuning) (scale value upper tuning) value g a f) in clash cc

  -- the factor of the ratio is finite and positive, so that its logarithm can be taken
  pub scale-positive : (draws : ℕ) (f : Float) (k : ℤ) → (scale_call value upper tuning g a).answer ≡ Proposals.Scaled draws (Power f k) → positive f ≡ true
  unfolding scale_limits
  scale-positive draws f k q =
      let c = (value_made (scale_limits value upper tuning) (scale value upper tuning) value g a draws (Power f k) q).fine in
      let l = ((and-eq-true_iff (scale_limits value upper tuning) (allowed a)).0 c).0 in
      let t = ((and-eq-true_iff (tuned tuning) (is_not_negative upper)).0 ((and-eq-true_iff (tuned tuning && is_not_negative upper) (finite value)).0 l).0).0 in
      let m = scale-made draws (Power f k) q in
      let e = m.ratio in
      let z : m.factor ≡ f = cc in
      subst (λ (x : Float). positive x ≡ true) z (chosen-positive tuning m.factor t m.drawn)
