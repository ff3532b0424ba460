-- For loops that draw a number again until a test holds: the draws are spent, a number is taken, or one is passed over and there are fewer draws
-- left. s₀ is the supply at first, s the one at this turn, k what was drawn from it, and u the supply after that. Assumes nothing.
use Rattle.std.specs.Prelude.{◌≡◌, Bool, true, false, ℕ, ◌<◌, Some, None}
use Rattle.random.specs.declared.Supply.{Supply}
use Rattle.random.specs.Draw.{Number, until, pick, drawn}
use Rattle.random.proofs.DrawLaws.{until-spent, until-found, until-again, pick-taking}
use Rattle.random.specs.SupplyLaws.{drawn-got, drawn-spent}

module _ (test : ℕ → Bool) (d : Number) (s : Supply) where
  -- no number is drawn
  pub redraw-spent : (s₀ : Supply) → pick (until test d) s₀ ≡ pick (until test d) s → None ≡ drawn (pick d s) → None ≡ drawn (pick (until test d) s₀)
  redraw-spent s₀ inv e = rw (inv, until-spent test d s (drawn-spent (pick d s) e))

  module _ (k : ℕ) (u : Supply) (e : Some (k, u) ≡ drawn (pick d s)) where
    -- each draw leaves fewer
    pub redraw-fewer : u.left < s.left
    redraw-fewer = pick-taking d s k u (drawn-got (pick d s) k u e)

    module _ (s₀ : Supply) (inv : pick (until test d) s₀ ≡ pick (until test d) s) where
      -- the number passes and is taken
      pub redraw-taken : test k ≡ true → Some (k, u) ≡ drawn (pick (until test d) s₀)
      redraw-taken p = rw (inv, until-found test d s k u (drawn-got (pick d s) k u e) p)

      -- the number does not pass, and the draw goes on
      pub redraw-passed : test k ≡ false → pick (until test d) s₀ ≡ pick (until test d) u
      redraw-passed p = rw inv (until-again test d s k u (drawn-got (pick d s) k u e) p)
