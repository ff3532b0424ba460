-- How a factor is drawn (`uniform-left`, `call-left`, `factored-got`, `factored-spent`), and that what is settled after it is the call (`settled-call`), for the code of
-- all scales; what a call leaves that declines without a draw (`undrawn-call`). Assumes nothing.
use Rattle.std.specs.Prelude.{◌≡◌, Bool, true, false, ◌&&◌, cond, ℕ, ◌≤◌, negsuc, Float, Some, None}
use Rattle.answer.specs.declared.Ratio.TheVariants.{Power}
use Rattle.answer.specs.declared.Proposal.{Proposal}
use Rattle.random.specs.declared.Random.{Random}
use Rattle.random.specs.declared.Supply.{Supply}
use Rattle.random.specs.Draw.{Draw, return, uniform, spent, got, run, supply_of, allowed, drawn}
use Rattle.random.proofs.DrawLaws.{run-lawful, bind-got, bind-spent}
use Rattle.random.specs.SupplyLaws.{drawn-got, drawn-spent}
use Rattle.calls.specs.Change.{Change, declined, scaled, proposed, value_call}
use Rattle.calls.proofs.ChangeLaws.{value-limits, value-declined, value-scaled, value-undrawn}
use Rattle.calls.specs.Draws.{scaler}
use Rattle.scales.specs.declared.Scaled.{Scaled}
use Rattle.scales.specs.Scales.{factored}
use Rattle.scales.specs.Given.{undrawn_of, settled}

-- ---- a factor

-- v is the uniform that was drawn from s, and u the supply after it: no more draws are left than before
pub uniform-left : (s : Supply) (v : Float) (u : Supply) → Some (v, u) ≡ drawn (run uniform s) → u.left ≤ s.left
uniform-left s v u e = ((run-lawful uniform).steps s v u (drawn-got (run uniform s) v u e)).fewer

-- of a call, no more than were allowed
pub call-left : (g : Random) (allowance : ℕ) (v : Float) (u : Supply) → Some (v, u) ≡ drawn (run uniform (supply_of g allowance)) → u.left ≤ allowance
call-left g allowance v u e = uniform-left (supply_of g allowance) v u e

module _ (tuning : Float) (make : Float → Float) (admits : Float → Bool) (s : Supply) where
  -- what is drawn with the factor f
  pub factored-got : (v : Float) (u : Supply) → Some (v, u) ≡ drawn (run uniform s) → (f : Float) → f ≡ scaler tuning v
      → run (factored tuning make admits) s ≡ got (cond (admits (make f)) (scaled (make f) (Power f (negsuc 0))) declined) u
  unfolding factored run
  factored-got v u e f ef = rw (bind-got uniform _ s v u (drawn-got (run uniform s) v u e), ef)

  -- no draw is left
  pub factored-spent : None ≡ drawn (run uniform s) → run (factored tuning make admits) s ≡ spent
  unfolding factored
  factored-spent e = bind-spent uniform _ s (drawn-spent (run uniform s) e)

-- ---- what is settled

module _ (limits : Bool) (program : Draw (Change Float)) (v : Float) (g : Random) (allowance : ℕ) (h : limits && allowed allowance ≡ true) where
  -- after the program was run, what is settled is the call
  pub settled-call : (b : Bool) (x f : Float) (after : Supply) → run program (supply_of g allowance) ≡ got (cond b (scaled x (Power f (negsuc 0))) declined) after
      → (r : Scaled Float) → r ≡ settled b x v f allowance after → proposed r.proposal r.random r.value ≡ value_call limits program v g allowance
  settled-call true x f after e r er = rw er (value-scaled limits program v g allowance h after x (Power f (negsuc 0)) e)
  settled-call false x f after e r er = rw er (value-declined limits program v g allowance h after e)

-- what a call leaves that declines without a draw
module _ {P : Type 0} (limits : Bool) (program : Draw (Change P)) (v : P) (g : Random) (allowance : ℕ) where
  pub undrawn-call : program ≡ return declined → (b : Bool) → b ≡ (limits && allowed allowance) → (r : Proposal) → r ≡ undrawn_of b
      → proposed r g v ≡ value_call limits program v g allowance
  undrawn-call e b eb r er = rw er (go b (rw eb))
    where
      go : (b : Bool) → limits && allowed allowance ≡ b → proposed (undrawn_of b) g v ≡ value_call limits program v g allowance
      go true h = value-undrawn limits program v g allowance h e
      go false h = value-limits limits program v g allowance h
