-- The ways through the scales of a process: a field (`field_laws`), and the call (`fbd-done`). Assumes nothing.
use mathlib.Core.Path.{◌≡◌, refl, sym, ap, ◌∙◌}
use mathlib.Core.Bool.{Bool, true, false, ◌&&◌}
use Prim.Native.Nat.{ℕ}
use lib.Ieee.{Float, binary64, add, sub, mul}
use Rattle.answer.specs.declared.Refusal.TheVariants.{Parameter, Allowance}
use Rattle.answer.specs.declared.Proposal.TheVariants as Proposals
use Rattle.random.specs.declared.Random.{Random}
use Rattle.random.specs.declared.Supply.{Supply}
use Rattle.std.specs.Prelude.{Some, None}
use Rattle.random.specs.Draw.{uniform, run, supply_of, allowed, drawn}
use Rattle.calls.specs.Change.{proposed, value_call}
use Rattle.calls.proofs.ChangeLaws.{put_in, value-limits, value-spent, value-undrawn, value-part}
use Rattle.calls.specs.Draws.{scaler}
use Rattle.kinds.specs.declared.Move.{Move}
use Rattle.process.specs.declared.FossilizedBirthDeath.{FossilizedBirthDeath}
use Rattle.process.specs.declared.ProcessPriors.{ProcessPriors}
use Rattle.process.specs.Process.{estimates}
use Rattle.fields.specs.declared.Field.{Field}
use Rattle.fields.specs.declared.Field.TheVariants.{Birth, Death, FossilSampling, Origin}
use Rattle.scales.specs.declared.Scaled.{Scaled}
use Rattle.fields.specs.Fields.{above, shifted, field, move_of, value_of, put, shift_of, fbd, fbd_limits, fbd_call}
use Rattle.scales.specs.Given.{turned_back, settled}
use Rattle.scales.specs.SettledLaws.{factored-got, factored-spent, call-left, settled-call}

-- ---- a field

module _ (limits estimated : Bool) (value shift tuning : Float) (g : Random) (allowance : ℕ) (a : Bool) (ea : a ≡ (limits && allowed allowance)) where
  pub field-limits : a ≡ false → (r : Scaled Float) → r ≡ turned_back (Parameter 0) value g
      → proposed r.proposal r.random r.value ≡ value_call limits (field estimated value shift tuning) value g allowance
  field-limits h r er = rw er (value-limits limits (field estimated value shift tuning) value g allowance (rw (← ea, h)))

  module _ (ha : a ≡ true) where
    holds : limits && allowed allowance ≡ true
    holds = rw (← ea, ha)

    pub field-undrawn : estimated ≡ false → proposed (Proposals.Declined 0) g value ≡ value_call limits (field estimated value shift tuning) value g allowance
    unfolding field
    field-undrawn h = value-undrawn limits (field estimated value shift tuning) value g allowance holds (rw h)

    module _ (h : estimated ≡ true) where
      pub field-spent : None ≡ drawn (run uniform (supply_of g allowance)) → (r : Scaled Float) → r ≡ turned_back (Allowance allowance) value g
          → proposed r.proposal r.random r.value ≡ value_call limits (field estimated value shift tuning) value g allowance
      unfolding field shifted
      field-spent e r er =
          rw er (value-spent limits (field estimated value shift tuning) value g allowance holds
          (rw h (factored-spent tuning (λ f. add binary64 shift (mul binary64 (sub binary64 value shift) f)) (above shift) (supply_of g allowance) e)))

      -- v is the uniform that was drawn, and u the supply after it
      pub field-settled : (v : Float) (u : Supply) → Some (v, u) ≡ drawn (run uniform (supply_of g allowance))
          → (f : Float) → f ≡ scaler tuning v → (b : Bool) → b ≡ above shift (add binary64 shift (mul binary64 (sub binary64 value shift) f))
          → (r : Scaled Float) → r ≡ settled b (add binary64 shift (mul binary64 (sub binary64 value shift) f)) value f allowance u
          → proposed r.proposal r.random r.value ≡ value_call limits (field estimated value shift tuning) value g allowance
      unfolding field shifted
      field-settled v u e f ef b eb r er =
          settled-call limits (field estimated value shift tuning) value g allowance holds b (add binary64 shift (mul binary64 (sub binary64 value shift) f)) f u
          (rw (h, eb) (factored-got tuning (λ f. add binary64 shift (mul binary64 (sub binary64 value shift) f)) (above shift) (supply_of g allowance) v u e f ef)) r er

pub ruleset field_laws = (field-limits, field-undrawn, call-left, field-spent, field-settled)

-- ---- the call

-- a process with the value that a field has is the process
put_same : (k : Field) (p : FossilizedBirthDeath) → put k p (value_of k p) ≡ p
put_same Birth p = refl
put_same Death p = refl
put_same FossilSampling p = refl
put_same Origin p = refl

module _ (k : Field) (priors : ProcessPriors) (p : FossilizedBirthDeath) (offset tuning : Float) (g : Random) (allowance : ℕ) where
  pub fbd-done : (l : Bool) → l ≡ fbd_limits priors p offset tuning → (m : Move) → m ≡ move_of k → (b : Bool) → b ≡ estimates priors m → (v : Float) → v ≡ value_of k p
      → (x : Float) → x ≡ shift_of k offset → (r : Scaled Float) → proposed r.proposal r.random r.value ≡ value_call l (field b v x tuning) v g allowance
      → (q : FossilizedBirthDeath) → q ≡ put k p r.value → proposed r.proposal r.random q ≡ fbd_call k priors p offset tuning g allowance
  unfolding fbd
  fbd-done l el m em b eb v ev x ex r er q eq =
      let inner = rw (el, eb, em, ev, ex) at er in
      let part = value-part (put k p) (fbd_limits priors p offset tuning) (field (estimates priors (move_of k)) (value_of k p) (shift_of k offset) tuning) (value_of k p) g allowance in
      rw eq (ap (put_in (put k p)) inner ∙ sym (rw (put_same k p) at part))
