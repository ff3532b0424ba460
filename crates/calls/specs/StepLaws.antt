-- For following a program of draws step by step: one of two ways (`cond-yields`), a drawn number (`number-yields`), a uniform taken for a factor
-- (`factor-yields`) and a height drawn in an interval (`height-yields`). Assumes nothing.
use Rattle.std.specs.Prelude.{◌≡◌, refl, Bool, true, false, cond, ℕ, Float}
use Rattle.random.specs.Draw.{Number, Draw, return, draw, ◌>>=◌, uniform, pick, run}
use Rattle.random.specs.Lawful.{Yields}
use Rattle.random.specs.UniformLaws.{UnitFraction}
use Rattle.random.proofs.DrawLaws.{return-yields, draws-yields, bind-yields, uniform-yields}
use Rattle.rules.specs.Rules.{within}
use Rattle.calls.specs.Call.{Reply, makes, outside, Outcome}
use Rattle.calls.specs.Draws.{scaler, interpolated, drawn_height}
use Rattle.calls.specs.Chosen.{Factor, Between}

-- a property of one of two, from what the test says of each
pub cond-holds : {A : Type 0} (P : A → Type 0) (b : Bool) {x y : A} → (b ≡ true → P x) → (b ≡ false → P y) → P (cond b x y)
cond-holds P true h k = h refl
cond-holds P false h k = k refl

module _ {A : Type 0} (Q : A → Type 0) where
  -- one of two ways
  pub cond-yields : (b : Bool) (d e : Draw A) → (b ≡ true → Yields Q (run d)) → (b ≡ false → Yields Q (run e)) → Yields Q (run (cond b d e))
  cond-yields b d e h k = cond-holds (λ (x : Draw A). Yields Q (run x)) b {x = d} {y = e} h k

  -- a number, and what follows it
  pub number-yields : {P : ℕ → Type 0} (d : Number) (f : ℕ → Draw A) → Yields P (pick d) → ((k : ℕ) → P k → Yields Q (run (f k))) → Yields Q (run (draw d >>= f))
  unfolding draw ◌>>=◌
  number-yields {P} d f y h = draws-yields P Q d f y h

  -- a uniform taken for a factor
  pub factor-yields : (s : Float) (f : Float → A) → ((x : Float) → Factor s x → Q (f x)) → Yields Q (run (uniform >>= (λ u. return (f (scaler s u)))))
  factor-yields s f h =
      bind-yields UnitFraction Q uniform (λ u. return (f (scaler s u))) uniform-yields
      (λ u p. return-yields Q (f (scaler s u)) (h (scaler s u) (record { uniform = u; unit = p; is = refl })))

-- a height in an interval, inside or outside
pub height-yields : (Q : Reply Outcome → Type 0) (k : ℕ) (lower upper : Float) (make : Float → Outcome)
    → ((x : Float) → Between lower upper x → within lower x upper ≡ true → Q (makes (make x)))
    → ((x : Float) → Between lower upper x → within lower x upper ≡ false → Q (outside k))
    → Yields Q (run (drawn_height k lower upper make))
unfolding drawn_height
height-yields Q k lower upper make h j =
    bind-yields UnitFraction Q uniform _ uniform-yields (λ u p. return-yields Q _ (ends u (record { uniform = u; unit = p; is = refl })))
  where
    ends : (u : Float) → Between lower upper (interpolated lower upper u)
        → Q (cond (within lower (interpolated lower upper u) upper) (makes (make (interpolated lower upper u))) (outside k))
    ends u b =
        let x = interpolated lower upper u in
        cond-holds Q (within lower x upper) {x = makes (make x)} {y = outside k} (h x b) (j x b)
