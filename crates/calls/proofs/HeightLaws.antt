-- For code that draws a height in an interval: how the program goes on where the draws are spent, and where the height is inside or outside
-- (`height-spent`, `height-inside`, `height-outside`). Assumes nothing.
use Rattle.std.specs.Prelude.{◌≡◌, refl, Bool, true, false, cond, ℕ, Float, Some, None}
use Rattle.std.proofs.Common.{sym, ap, ◌∙◌}
use Rattle.random.specs.declared.Supply.{Supply}
use Rattle.random.specs.Draw.{uniform, spent, got, run, drawn}
use Rattle.random.proofs.DrawLaws.{bind-got, bind-spent}
use Rattle.random.specs.SupplyLaws.{drawn-got, drawn-spent}
use Rattle.rules.specs.Rules.{within}
use Rattle.calls.specs.Call.{Reply, makes, outside, Outcome}
use Rattle.calls.specs.Draws.{interpolated, drawn_height}
use Rattle.calls.specs.Given.{height_of}
use Rattle.calls.proofs.RunLaws.{clash}

module _ (k : ℕ) (lower upper : Float) (make : Float → Outcome) (s : Supply) where
  -- no uniform is drawn
  pub height-spent : None ≡ drawn (run uniform s) → run (drawn_height k lower upper make) s ≡ spent
  unfolding drawn_height
  height-spent e = bind-spent uniform _ s (drawn-spent (run uniform s) e)

  -- v is the uniform, and u the supply after it
  module _ (v : Float) (u : Supply) (e : Some (v, u) ≡ drawn (run uniform s)) where
    abbrev at : Float
    at = interpolated lower upper v

    abbrev inside : Bool
    inside = within lower (interpolated lower upper v) upper

    ran : run (drawn_height k lower upper make) s ≡ got (cond inside (makes (make at)) (outside k)) u
    unfolding drawn_height run
    ran = bind-got uniform _ s v u (drawn-got (run uniform s) v u e)

    -- the height is taken
    pub height-inside : (x : Float) → Some x ≡ height_of lower upper v → run (drawn_height k lower upper make) s ≡ got (makes (make x)) u
    height-inside x p = ran ∙ ap (λ (a : Reply Outcome). got a u) (go inside (sym p))
      where
        go : (b : Bool) → cond b (Some at) None ≡ Some x → cond b (makes (make at)) (outside k) ≡ makes (make x)
        go true q = let y : at ≡ x = cc in ap (λ (z : Float). makes (make z)) y
        go false q = clash cc

    -- the height is an 8
    pub height-outside : None ≡ height_of lower upper v → run (drawn_height k lower upper make) s ≡ got (outside k) u
    height-outside p = ran ∙ ap (λ (a : Reply Outcome). got a u) (go inside (sym p))
      where
        go : (b : Bool) → cond b (Some at) None ≡ None → cond b (makes (make at)) (outside k) ≡ outside k
        go true q = clash cc
        go false q = refl
