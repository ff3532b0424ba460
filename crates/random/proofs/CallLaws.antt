-- The ways through the code of `Random::below`: a parameter is outside its limits, the draws are spent, a number is drawn. Assumes nothing.
use Rattle.std.proofs.Common.{◌≡◌, ℕ, ◌-◌, ◌≤◌, true, false, ◌&&◌}
use Rattle.answer.specs.declared.Refusal.TheVariants.{Parameter, Allowance}
use Rattle.random.specs.Draw.{below, pick, countable, allowed, supply_of, drawn}
use Rattle.random.specs.BelowCall.{turned_back, below_call}
use Rattle.random.proofs.DrawLaws.{pick-lawful}
use Rattle.random.specs.SupplyLaws.{drawn-got, drawn-spent}
use Rattle.random.specs.declared.Random.{Random}
use Rattle.random.specs.declared.Supply.{Supply}
use Rattle.std.specs.Prelude.{Ok, Some, None}

module _ (g : Random) (n allowance : ℕ) where
  pub call-limits : countable n && allowed allowance ≡ false → turned_back g (Parameter 0) ≡ below_call g n allowance
  unfolding below_call
  call-limits f = rw f

  pub call-spent : countable n && allowed allowance ≡ true → None ≡ drawn (pick (below n) (supply_of g allowance))
      → turned_back g (Allowance allowance) ≡ below_call g n allowance
  unfolding below_call
  call-spent t e = rw (t, drawn-spent (pick (below n) (supply_of g allowance)) e)

  -- k is what was drawn, and s the supply after it
  module _ (k : ℕ) (s : Supply) (e : Some (k, s) ≡ drawn (pick (below n) (supply_of g allowance))) where
    pub call-drawn : countable n && allowed allowance ≡ true → (Ok (k, allowance - s.left), s.random) ≡ below_call g n allowance
    unfolding below_call
    call-drawn t = rw (t, drawn-got (pick (below n) (supply_of g allowance)) k s e)

    -- what the difference in it asks
    pub call-left : s.left ≤ allowance
    call-left = ((pick-lawful (below n)).steps (supply_of g allowance) k s (drawn-got (pick (below n) (supply_of g allowance)) k s e)).fewer

pub ruleset call_laws = (call-limits, call-spent, call-drawn, call-left)
