-- The tip that the refusal of a call with an age table names. On an accepted tree with an age for each tip it is the lowest at fault, ahead of any other 5 of the
-- call, and nothing is changed (`age_fault`, `initialize-fault`); and a 5 of any call names such a tip, or has detail 0 where no tip is at fault (`age-five`,
-- `initialize-five`). Assumes nothing.
use Rattle.std.specs.Prelude.{◌≡◌, Bool, true, false, ◌&&◌, cond, List, ℕ, ltb, length, Float, Result, Ok, Err}
use Rattle.std.proofs.Math.Path.{refl, ap}
use Rattle.std.proofs.Common.{◌∙◌, subst, arith}
use Rattle.answer.specs.declared.Refusal.TheVariants.{Parameter, NotFinite}
use Rattle.answer.specs.declared.Answer.TheVariants as Answers
use Rattle.random.specs.declared.Random.{Random}
use Rattle.random.specs.Draw.{allowed}
use Rattle.tree.specs.Tree.{Tree, nodes_of, tips_of}
use Rattle.tree.specs.New.{Accepted, validated}
use Rattle.accepted.specs.AcceptedLaws.{accepted-valid}
use Rattle.accepted.specs.ValidatedLaws.{valid-fine}
use Rattle.calls.specs.Call.{and_then, run_call, called_on, leaves}
use Rattle.calls.specs.Draws.{least}
use Rattle.calls.proofs.RunLaws.{clash}
use Rattle.moves.specs.Ends.{Ends, refuses}
use Rattle.moves.specs.EndsLaws.{run_ends}
use Rattle.process.specs.declared.FossilizedBirthDeath.{FossilizedBirthDeath}
use Rattle.process.specs.Process.{process_finite}
use Rattle.ages.specs.Ages.{table_checked}
use Rattle.ages.proofs.FaultLaws.{LowestAt, checked-fault, Five, checked-five}
use Rattle.dating.specs.Initialize.{Start, start_of, overflows_at, initial_to, start_fits, all_finite, initialized, or_kept, initialize_call}
use Rattle.dating.specs.TipAge.{tip_age, ages_checked, tip_age_call}
use Rattle.answer.specs.declared.Refusal.{Refusal}

-- k is the lowest tip at fault
module _ (minima maxima : List Float) (p : FossilizedBirthDeath) (t : Tree) (v : Accepted t) (l : length minima ≡ tips_of (nodes_of t.pairs))
    (u : length maxima ≡ tips_of (nodes_of t.pairs)) (k : ℕ) (f : LowestAt p minima maxima (tips_of (nodes_of t.pairs)) k) where
  fine : validated t ≡ (Ok tt)
  fine = valid-fine (nodes_of t.pairs) t (accepted-valid t v)

  -- of TipAge, whatever the other fields of the process, the generator and the allowance
  pub age_fault : (g : Random) (a : ℕ) → tip_age_call minima maxima p t g a ≡ called_on (Answers.Refused (Parameter k)) g t
  unfolding tip_age_call ages_checked leaves
  age_fault g a = rw (checked-fault p minima maxima t k fine l u f (process_finite p && allowed a))

  -- of `initialize`, whatever the other fields of the process and the root's height
  pub initialize-fault : initialize_call minima maxima p t ≡ initialized (Err (Parameter k)) t.heights
  unfolding initialize_call
  initialize-fault = rw (checked-fault p minima maxima t k fine l u f (start_fits minima maxima p t))

-- ---- what a 5 says

module _ (minima maxima : List Float) (p : FossilizedBirthDeath) (t : Tree) (k : ℕ) where
  abbrev tips : ℕ
  tips = tips_of (nodes_of t.pairs)

  -- a call that passed its checks is not refused with a 5
  late : Ends (Answers.Refused (Parameter k)) → ⊥
  late (refuses why l h) = absurd (omega arith)

  -- of TipAge: a tip, or a field of the process or the allowance
  pub age-five : (g : Random) (a : ℕ) → (tip_age_call minima maxima p t g a).answer ≡ Answers.Refused (Parameter k)
      → Five p minima maxima tips (process_finite p && allowed a) k
  unfolding tip_age_call ages_checked leaves
  age-five g a = go (ages_checked minima maxima p t a) refl
    where
      go : (v : Result (Unit {0}) Refusal) → ages_checked minima maxima p t a ≡ v → (leaves t g (run_call v (tip_age minima maxima t) g a)).answer ≡ Answers.Refused (Parameter k)
          → Five p minima maxima tips (process_finite p && allowed a) k
      go (Err why) e q = let z : why ≡ Parameter k = cc in checked-five p minima maxima t (process_finite p && allowed a) k (e ∙ ap Err z)
      go (Ok tt) e q = absurd (late (subst Ends q (run_ends t (tip_age minima maxima t) g (Ok tt) refl a)))

  -- of `initialize`: a tip, or a field of the process, the root's height or the origin
  pub initialize-five : (initialize_call minima maxima p t).answer ≡ Err (Parameter k) → Five p minima maxima tips (start_fits minima maxima p t) k
  unfolding initialize_call all_finite
  initialize-five = go (table_checked p minima maxima t (start_fits minima maxima p t)) refl
    where
      s : Start
      s = start_of minima maxima p.origin t

      -- a height that is not finite is no 5
      finite-so : (b : Bool) (j : ℕ) (old new : List Float) → (or_kept (cond b (Err (NotFinite j)) (Ok tt)) old new).answer ≡ Err (Parameter k) → ⊥
      finite-so true j old new e = clash cc
      finite-so false j old new e = clash cc

      go : (v : Result (Unit {0}) Refusal) → table_checked p minima maxima t (start_fits minima maxima p t) ≡ v
          → (or_kept (and_then v (all_finite s t)) t.heights (initial_to s t (nodes_of t.pairs))).answer ≡ Err (Parameter k)
          → Five p minima maxima tips (start_fits minima maxima p t) k
      go (Err why) e q = let z : why ≡ Parameter k = cc in checked-five p minima maxima t (start_fits minima maxima p t) k (e ∙ ap Err z)
      go (Ok tt) e q = absurd (finite-so (ltb (least (overflows_at s t) s.nodes) s.nodes) _ _ _ q)
