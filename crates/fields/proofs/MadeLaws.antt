-- What the answers of the plain scales of a process come from: a call that scaled has drawn a factor for an estimated field, and left that field finite and above the
-- shift (`fbd-made`); one that declined has a field that is not estimated, or has drawn a factor that does not (`fbd-unmade`). Assumes nothing.
use Rattle.std.specs.Prelude.{◌≡◌, ◌⊎◌, Bool, true, cond, ℕ, Float}
use Rattle.std.proofs.Math.Path.{refl}
use Rattle.std.proofs.Math.Logic.{inl}
use Rattle.std.proofs.Common.{inr}
use Rattle.std.proofs.Math.Bool.{false}
use Rattle.std.specs.Float.{binary64}
use Rattle.std.specs.Float.Ieee.{add, sub, mul}
use Rattle.answer.specs.declared.Ratio.{Ratio}
use Rattle.answer.specs.declared.Proposal.TheVariants as Proposals
use Rattle.random.specs.declared.Random.{Random}
use Rattle.random.specs.declared.Supply.{Supply}
use Rattle.random.specs.Draw.{return, ◌>>=◌, run, got, supply_of}
use Rattle.calls.specs.Change.{Change, declined, scaled, on_part}
use Rattle.calls.proofs.RunLaws.{clash}
use Rattle.calls.proofs.ChangeLaws.{value_made, value-unmade}
use Rattle.process.specs.declared.FossilizedBirthDeath.{FossilizedBirthDeath}
use Rattle.process.specs.declared.ProcessPriors.{ProcessPriors}
use Rattle.process.specs.Process.{estimates}
use Rattle.scales.specs.Scalings.{Declines, Placed, PartScales}
use Rattle.scales.proofs.ScalingLaws.{placed-yields, placed-made, placed-unmade}
use Rattle.fields.specs.declared.Field.{Field}
use Rattle.fields.specs.Fields.{above, shifted, field, move_of, value_of, put, shift_of, fbd, fbd_limits, fbd_call}

-- shift + (value − shift)·f for a field of a process
abbrev pub moved : Field → FossilizedBirthDeath → Float → Float → Float
moved k p offset f = let shift = shift_of k offset in add binary64 shift (mul binary64 (sub binary64 (value_of k p) shift) f)

module _ (k : Field) (priors : ProcessPriors) (p : FossilizedBirthDeath) (offset tuning : Float) (g : Random) (a : ℕ) where
  -- the run of the program, by whether the field is estimated
  ran : (c : Change FossilizedBirthDeath) (u : Supply) → run (fbd k priors p offset tuning) (supply_of g a) ≡ got c u
      → ((estimates priors (move_of k) ≡ false) × (c ≡ declined)) ⊎ ((estimates priors (move_of k) ≡ true) × Placed (put k p) tuning (moved k p offset) (above (shift_of k offset)) c)
  unfolding fbd field
  ran c u = go (estimates priors (move_of k)) refl
    where
      undrawn : run (on_part (put k p) (return declined)) (supply_of g a) ≡ got c u → c ≡ declined
      undrawn q = unfold on_part ◌>>=◌ run in cc

      go : (b : Bool) → estimates priors (move_of k) ≡ b
          → run (on_part (put k p) (cond b (shifted (value_of k p) (shift_of k offset) tuning) (return declined))) (supply_of g a) ≡ got c u
          → ((estimates priors (move_of k) ≡ false) × (c ≡ declined)) ⊎ ((estimates priors (move_of k) ≡ true) × Placed (put k p) tuning (moved k p offset) (above (shift_of k offset)) c)
      go true e q = inr (e, placed-yields (put k p) tuning (moved k p offset) (above (shift_of k offset)) (supply_of g a) c u (unfold shifted in q))
      go false e q = inl (e, undrawn q)

  -- a call that scaled has an estimated field, and left it shifted by a drawn factor
  pub fbd-made : (draws : ℕ) (r : Ratio) → (fbd_call k priors p offset tuning g a).answer ≡ Proposals.Scaled draws r
      → (estimates priors (move_of k) ≡ true) × PartScales (put k p) tuning (moved k p offset) (above (shift_of k offset)) (fbd_call k priors p offset tuning g a).value r
  fbd-made draws r q =
      let c = value_made (fbd_limits priors p offset tuning) (fbd k priors p offset tuning) p g a draws r q in
      go (ran _ c.supply c.ran)
    where
      go : {w : FossilizedBirthDeath}
          → ((estimates priors (move_of k) ≡ false) × (scaled w r ≡ declined)) ⊎ ((estimates priors (move_of k) ≡ true) × Placed (put k p) tuning (moved k p offset) (above (shift_of k offset)) (scaled w r))
          → (estimates priors (move_of k) ≡ true) × PartScales (put k p) tuning (moved k p offset) (above (shift_of k offset)) w r
      go (inl x) = let e = x.1 in clash cc
      go (inr x) = (x.0, placed-made (put k p) tuning (moved k p offset) (above (shift_of k offset)) x.1)

  -- one that declined has a field that is not estimated, or has drawn a factor for which it is not finite and above the shift
  pub fbd-unmade : (draws : ℕ) → (fbd_call k priors p offset tuning g a).answer ≡ Proposals.Declined draws
      → (estimates priors (move_of k) ≡ false) ⊎ Declines tuning (moved k p offset) (above (shift_of k offset))
  fbd-unmade draws q =
      let c = value-unmade (fbd_limits priors p offset tuning) (fbd k priors p offset tuning) p g a draws q in
      go (ran declined c.supply c.ran)
    where
      go : ((estimates priors (move_of k) ≡ false) × (◌≡◌ {A = Change FossilizedBirthDeath} declined declined)) ⊎ ((estimates priors (move_of k) ≡ true) × Placed (put k p) tuning (moved k p offset) (above (shift_of k offset)) declined)
          → (estimates priors (move_of k) ≡ false) ⊎ Declines tuning (moved k p offset) (above (shift_of k offset))
      go (inl x) = inl x.0
      go (inr x) = inr (placed-unmade (put k p) tuning (moved k p offset) (above (shift_of k offset)) x.1)
