-- Request S-5 of every call by values that has an allowance, by name. Definitions only. Assumes nothing.
use Rattle.std.specs.Prelude.{◌≡◌, List, ℕ, Float, Option, Result}
use Rattle.random.specs.declared.Random.{Random}
use Rattle.random.specs.BelowCall.{below_call}
use Rattle.tree.specs.Tree.{Tree}
use Rattle.tree.specs.New.{Accepted}
use Rattle.calls.specs.Call.{Called}
use Rattle.calls.specs.Change.{Proposed}
use Rattle.moves.specs.Moves.{Move, move_call, UnvalidatedCall, start_call, unvalidated_start}
use Rattle.slide.specs.declared.Started.{Started}
use Rattle.slide.specs.Started.{started_of}
use Rattle.speciation.specs.declared.Speciation.{Speciation}
use Rattle.scales.specs.Scales.{scale_call, clock_rate_call, birth_difference_call, birth_rate_call, relative_death_call}
use Rattle.clocks.specs.Clocks.{clock_sigma_call, branch_rate_call}
use Rattle.process.specs.declared.FossilizedBirthDeath.{FossilizedBirthDeath}
use Rattle.process.specs.declared.ProcessPriors.{ProcessPriors}
use Rattle.fields.specs.declared.Field.{Field}
use Rattle.fields.specs.Fields.{fbd_call}
use Rattle.dating.specs.TipAge.{tip_age_call}
use Rattle.allowances.specs.Lasting.{Lasting, answer_number, proposal_number, below_number, begun_number}
use Rattle.answer.specs.declared.Refusal.{Refusal}

-- ---- by what a call leaves

-- a call on a tree
abbrev pub LastingTree : (ℕ → Called) → Type 0
LastingTree call = Lasting (λ c. answer_number c.answer) call

-- a call on parameters
abbrev pub LastingValue : {P : Type 0} → (ℕ → Proposed P) → Type 0
LastingValue call = Lasting (λ c. proposal_number c.answer) call

-- `below`, and a slide's first call
abbrev pub LastingBelow : (ℕ → Result (ℕ × ℕ) Refusal × Random) → Type 0
LastingBelow call = Lasting (λ d. below_number d.0) call

abbrev pub LastingStart : (ℕ → Started) → Type 0
LastingStart call = Lasting (λ s. begun_number s.answer) call

-- ---- every call

pub record LastingCalls : Type 0 where
  -- `below` by value; and lent: what meets the contract of lent::below, the answer and the generator that the caller finds
  pub below : (g : Random) (n : ℕ) → LastingBelow (below_call g n)
  pub below_lent : (g : Random) (n : ℕ) (answer : ℕ → Result (ℕ × ℕ) Refusal) (found : ℕ → Random) → ((a : ℕ) → (answer a, found a) ≡ below_call g n a)
      → LastingBelow (λ a. (answer a, found a))
  -- the seven tree moves; and what meets the contract of an unvalidated one, on an accepted tree
  pub move : (m : Move) (t : Tree) (g : Random) → LastingTree (move_call m t g)
  pub move_unvalidated : (m : Move) (t : Tree) (g : Random) → Accepted t → (call : ℕ → Called) → ((a : ℕ) → UnvalidatedCall m t g a (call a)) → LastingTree call
  -- a slide's first call, and the unvalidated one, on any slices
  pub slide-start : (t : Tree) (g : Random) → LastingStart (λ a. started_of g (start_call t g a))
  pub slide_start_unvalidated : (t : Tree) (g : Random) → LastingStart (λ a. started_of g (unvalidated_start t g a))
  -- TipAge
  pub tip_age : (minima maxima : List Float) (p : FossilizedBirthDeath) (t : Tree) (g : Random) → LastingTree (tip_age_call minima maxima p t g)
  -- the calls on parameters
  pub scale : (value upper tuning : Float) (g : Random) → LastingValue (scale_call value upper tuning g)
  pub clock-rate : (mean : Option Float) (tuning : Float) (g : Random) → LastingValue (clock_rate_call mean tuning g)
  pub birth-difference : (s : Speciation) (upper tuning : Float) (g : Random) → LastingValue (birth_difference_call s upper tuning g)
  pub birth-rate : (s : Speciation) (upper tuning : Float) (g : Random) → LastingValue (birth_rate_call s upper tuning g)
  pub relative-death : (s : Speciation) (tuning : Float) (g : Random) → LastingValue (relative_death_call s tuning g)
  pub clock-sigma : (sigma : Option Float) (rates : List Float) (tuning : Float) (g : Random) → LastingValue (clock_sigma_call sigma rates tuning g)
  pub branch-rate : (sigma : Option Float) (rates : List Float) (tuning : Float) (g : Random) → LastingValue (branch_rate_call sigma rates tuning g)
  pub process : (k : Field) (priors : ProcessPriors) (p : FossilizedBirthDeath) (offset tuning : Float) (g : Random) → LastingValue (fbd_call k priors p offset tuning g)
