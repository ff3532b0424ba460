-- What holds of every call on parameters, whatever its program. In order: what it leaves, by how its checks and its program end (`value-limits`,
-- `value-spent`, `value-declined`, `value-scaled`, `value-undrawn`, for the code of the calls) and from the call on a part (`value-part`); draws (`value-steps`,
-- `value-within`, `value-draws`); what is not changed (`value-refused`, `value-kept`); how the program's run ended
-- (`value_made`, `value-unmade`); other allowances (`value-larger`, `value-enough`); and that nothing but 5
-- and 6 turns it back (`value-ends`, `value-refusals`). Assumes nothing.
use Rattle.std.specs.Prelude.{◌≡◌, ◌⊎◌, Bool, ◌&&◌, cond, ℕ, ◌-◌, ◌≤◌, Ok, Err}
use Rattle.std.proofs.Math.Path.{refl, ap}
use Rattle.std.proofs.Common.{◌∙◌, inl, inr}
use Rattle.std.proofs.Math.Bool.{true, false}
use native.Mathlib.Omega.{arith}
use Rattle.answer.specs.declared.Refusal.{Refusal}
use Rattle.answer.specs.declared.Refusal.TheVariants.{Parameter, Allowance}
use Rattle.answer.specs.declared.Ratio.{Ratio}
use Rattle.answer.specs.declared.Proposal.{Proposal}
use Rattle.answer.specs.declared.Proposal.TheVariants as Proposals
use Rattle.answer.specs.Answers.{draws_in}
use Rattle.random.specs.declared.Random.{Random}
use Rattle.random.specs.declared.Supply.{Supply}
use Rattle.random.specs.Generator.{after}
use Rattle.random.specs.Draw.{Draw, return, Drawn, spent, got, onward, run, supply_of, allowed}
use Rattle.random.proofs.DrawLaws.{run_bind}
use Rattle.calls.specs.Call.{Reply, makes, Ending, refused, given, ended, left_of, draws_made, limited, past, run_call}
use Rattle.calls.specs.Change.{Change, declined, scaled, in_place, on_part, Proposed, proposed, keeps, replying, value_call}
use Rattle.calls.proofs.RunLaws.{clash, run-steps, run-within, run-draws, run-larger, run-enough}
use Rattle.calls.proofs.TreeCallLaws.{allows}

-- ---- what a call leaves

-- how a program's run ends, with a reply or without
replied : {A : Type 0} → Drawn A → Drawn (Reply A)
replied d = onward d (λ a u. got (makes a) u)

replying-run : {A : Type 0} (program : Draw A) (s : Supply) → run (replying program) s ≡ replied (run program s)
unfolding replying replied run
replying-run program s = run_bind program (λ a. return (makes a)) s

-- a reply takes no draw
replying-made : {A : Type 0} (program : Draw A) (g : Random) (a : ℕ) → draws_made (replying program) g a ≡ draws_made program g a
unfolding replied onward
replying-made {A} program g a = rw (replying-run program (supply_of g a)) (go (run program (supply_of g a)))
  where
    go : (d : Drawn A) → a - left_of (replied d) ≡ a - left_of d
    go spent = refl
    go (got x u) = refl

module _ {P : Type 0} (limits : Bool) (program : Draw (Change P)) (v : P) (g : Random) (allowance : ℕ) where
  pub value-limits : limits && allowed allowance ≡ false → proposed (Proposals.Refused (Parameter 0)) g v ≡ value_call limits program v g allowance
  unfolding value_call keeps
  value-limits h = rw h

  -- the limits hold
  module _ (h : limits && allowed allowance ≡ true) where
    pub value-spent : run program (supply_of g allowance) ≡ spent → proposed (Proposals.Refused (Allowance allowance)) g v ≡ value_call limits program v g allowance
    unfolding value_call keeps ended replied onward
    value-spent e = rw (h, replying-run program (supply_of g allowance), e)

    module _ (u : Supply) where
      pub value-declined : run program (supply_of g allowance) ≡ got declined u → proposed (Proposals.Declined (allowance - u.left)) u.random v ≡ value_call limits program v g allowance
      unfolding value_call keeps ended replied onward
      value-declined e = rw (h, replying-run program (supply_of g allowance), e)

      pub value-scaled : (w : P) (r : Ratio) → run program (supply_of g allowance) ≡ got (scaled w r) u
          → proposed (Proposals.Scaled (allowance - u.left) r) u.random w ≡ value_call limits program v g allowance
      unfolding value_call keeps ended replied onward
      value-scaled w r e = rw (h, replying-run program (supply_of g allowance), e)

    -- nothing was drawn
    pub value-undrawn : program ≡ return declined → proposed (Proposals.Declined 0) g v ≡ value_call limits program v g allowance
    unfolding run
    value-undrawn e =
        let none_made : 0 ≡ allowance - allowance = omega arith in
        ap (λ (d : ℕ). proposed (Proposals.Declined d) g v) none_made ∙ value-declined (supply_of g allowance) (rw e)

-- what a call on a part leaves, with the rest beside it
abbrev pub put_in : {P Q : Type 0} → (P → Q) → Proposed P → Proposed Q
put_in put c = proposed c.answer c.random (put c.value)

-- a call on a part of Q is the call on the part
module _ {P Q : Type 0} (put : P → Q) (limits : Bool) (program : Draw (Change P)) (v : P) (g : Random) (allowance : ℕ) where
  placed : (d : Drawn (Change P)) → keeps (put v) g (ended allowance (replied (onward d (λ c u. got (in_place put c) u)))) ≡ put_in put (keeps v g (ended allowance (replied d)))
  unfolding keeps ended replied onward
  placed spent = refl
  placed (got declined u) = refl
  placed (got (scaled w r) u) = refl

  part-run : (s : Supply) → run (on_part put program) s ≡ onward (run program s) (λ c u. got (in_place put c) u)
  unfolding on_part run
  part-run s = run_bind program (λ c. return (in_place put c)) s

  pub value-part : value_call limits (on_part put program) (put v) g allowance ≡ put_in put (value_call limits program v g allowance)
  unfolding value_call
  value-part = go (limits && allowed allowance)
    where
      s : Supply
      s = supply_of g allowance

      go : (b : Bool)
          → keeps (put v) g (past (cond b (Ok tt) (Err (Parameter 0))) (ended allowance (run (replying (on_part put program)) s)))
          ≡ put_in put (keeps v g (past (cond b (Ok tt) (Err (Parameter 0))) (ended allowance (run (replying program) s))))
      go true = rw (replying-run (on_part put program) s, part-run s, replying-run program s) (placed (run program s))
      go false = unfold keeps in refl

-- ---- draws

module _ {P : Type 0} (limits : Bool) (program : Draw (Change P)) (v : P) (g : Random) where
  abbrev ending : ℕ → Ending (Change P)
  ending a = run_call (limited limits a) (replying program) g a

  -- the generator is stepped as often as the answer says that draws were made, and a refused call makes none
  pub value-steps : (a : ℕ) → (value_call limits program v g a).random ≡ after (draws_in (value_call limits program v g a).answer) g
  unfolding value_call keeps after
  value-steps a = go (ending a) refl
    where
      go : (x : Ending (Change P)) → ending a ≡ x → (keeps v g x).random ≡ after (draws_in (keeps v g x).answer) g
      go (refused why) e = refl
      go (given declined d h) e = run-steps (replying program) g (limited limits a) a declined d h e
      go (given (scaled w r) d h) e = run-steps (replying program) g (limited limits a) a (scaled w r) d h e

  -- no more than are allowed
  pub value-within : (a : ℕ) → draws_in (value_call limits program v g a).answer ≤ a
  unfolding value_call keeps
  value-within a = go (ending a) refl
    where
      go : (x : Ending (Change P)) → ending a ≡ x → draws_in (keeps v g x).answer ≤ a
      go (refused why) e = omega arith
      go (given declined d h) e = run-within (replying program) g (limited limits a) a declined d h e
      go (given (scaled w r) d h) e = run-within (replying program) g (limited limits a) a (scaled w r) d h e

  -- a call that is not refused says as many as its program makes
  pub value-draws : (a : ℕ) → ((why : Refusal) → (value_call limits program v g a).answer ≡ Proposals.Refused why → ⊥)
      → draws_in (value_call limits program v g a).answer ≡ draws_made program g a
  unfolding value_call keeps
  value-draws a n = go (ending a) refl n ∙ replying-made program g a
    where
      go : (x : Ending (Change P)) → ending a ≡ x → ((why : Refusal) → (keeps v g x).answer ≡ Proposals.Refused why → ⊥)
          → draws_in (keeps v g x).answer ≡ draws_made (replying program) g a
      go (refused why) e n = absurd (n why refl)
      go (given declined d h) e n = run-draws (replying program) g (limited limits a) a declined d h e
      go (given (scaled w r) d h) e n = run-draws (replying program) g (limited limits a) a (scaled w r) d h e

  -- ---- what is not changed

  -- a refused call hands back the generator and the parameters as they came
  pub value-refused : (a : ℕ) (why : Refusal) → (value_call limits program v g a).answer ≡ Proposals.Refused why → value_call limits program v g a ≡ proposed (Proposals.Refused why) g v
  unfolding value_call keeps
  value-refused a why = go (ending a)
    where
      go : (x : Ending (Change P)) → (keeps v g x).answer ≡ Proposals.Refused why → keeps v g x ≡ proposed (Proposals.Refused why) g v
      go (refused y) e = ap (λ (p : Proposal). proposed p g v) e
      go (given declined d h) e = clash cc
      go (given (scaled w r) d h) e = clash cc

  -- a declined call hands back the parameters as they came
  pub value-kept : (a draws : ℕ) → (value_call limits program v g a).answer ≡ Proposals.Declined draws
      → value_call limits program v g a ≡ proposed (Proposals.Declined draws) (after draws g) v
  unfolding value_call keeps
  value-kept a draws = go (ending a) refl
    where
      go : (x : Ending (Change P)) → ending a ≡ x → (keeps v g x).answer ≡ Proposals.Declined draws → keeps v g x ≡ proposed (Proposals.Declined draws) (after draws g) v
      go (refused why) e q = clash cc
      go (given declined d h) e q =
          let ed : d ≡ draws = cc in
          let eh : h ≡ after draws g = run-steps (replying program) g (limited limits a) a declined d h e ∙ ap (λ (k : ℕ). after k g) ed in
          λ i. proposed (Proposals.Declined (ed i)) (eh i) v
      go (given (scaled w r) d h) e q = clash cc

  -- ---- how the program's run ended

  -- the limits held, and the run gave this change
  pub record Changed (a : ℕ) (c : Change P) : Type 0 where
    pub fine : limits && allowed a ≡ true
    pub supply : Supply
    pub ran : run program (supply_of g a) ≡ got c supply

  changed : (a : ℕ) (c : Change P) (d : ℕ) (h : Random) → ending a ≡ given c d h → Changed a c
  unfolding ended replied onward
  changed a c d h = go (limits && allowed a) refl
    where
      drawn : limits && allowed a ≡ true → (x : Drawn (Change P)) → run program (supply_of g a) ≡ x → ended a (replied x) ≡ given c d h → Changed a c
      drawn f spent e q = clash cc
      drawn f (got b u) e q = let z : b ≡ c = cc in record { fine = f; supply = u; ran = e ∙ ap (λ (y : Change P). got y u) z }

      go : (b : Bool) → limits && allowed a ≡ b → past (cond b (Ok tt) (Err (Parameter 0))) (ended a (run (replying program) (supply_of g a))) ≡ given c d h → Changed a c
      go true f e = drawn f (run program (supply_of g a)) refl (rw (replying-run program (supply_of g a)) at e)
      go false f e = clash cc

  -- a call that scaled has drawn the value that it leaves, with its ratio
  pub value_made : (a draws : ℕ) (r : Ratio) → (value_call limits program v g a).answer ≡ Proposals.Scaled draws r → Changed a (scaled (value_call limits program v g a).value r)
  unfolding value_call keeps
  value_made a draws r = go (ending a) refl
    where
      go : (x : Ending (Change P)) → ending a ≡ x → (keeps v g x).answer ≡ Proposals.Scaled draws r → Changed a (scaled (keeps v g x).value r)
      go (refused why) e q = clash cc
      go (given declined d h) e q = clash cc
      go (given (scaled w s) d h) e q =
          let z : s ≡ r = cc in
          changed a (scaled w r) d h (e ∙ ap (λ (y : Ratio). given (scaled w y) d h) z)

  -- a call that declined has declined
  pub value-unmade : (a draws : ℕ) → (value_call limits program v g a).answer ≡ Proposals.Declined draws → Changed a declined
  unfolding value_call keeps
  value-unmade a draws = go (ending a) refl
    where
      go : (x : Ending (Change P)) → ending a ≡ x → (keeps v g x).answer ≡ Proposals.Declined draws → Changed a declined
      go (refused why) e q = clash cc
      go (given declined d h) e q = changed a declined d h e
      go (given (scaled w s) d h) e q = clash cc

  -- ---- other allowances

  same-limits : (a b : ℕ) → allowed a ≡ true → allowed b ≡ true → limited limits b ≡ limited limits a
  same-limits a b h k = rw (h, k)

  -- what was answered with an allowance is answered with a larger one, unless it was a 6
  pub value-larger : (a b : ℕ) → 1 ≤ a → a ≤ b → b ≤ 65535 → ((value_call limits program v g a).answer ≡ Proposals.Refused (Allowance a) → ⊥)
      → value_call limits program v g b ≡ value_call limits program v g a
  unfolding value_call keeps
  value-larger a b h o k n =
      let y = same-limits a b (allows a h (omega arith)) (allows b (omega arith) k) in
      rw y (ap (keeps v g) (run-larger (replying program) g (limited limits a) a b o (λ e. n (ap (λ (x : Ending (Change P)). (keeps v g x).answer) e))))

  -- an allowance of as many draws as the program makes is enough: a 6 is answered only where more draws would be made
  pub value-enough : (a b : ℕ) → 1 ≤ a → a ≤ b → b ≤ 65535 → draws_made program g b ≤ a → value_call limits program v g a ≡ value_call limits program v g b
  unfolding value_call
  value-enough a b h o k m =
      let y = same-limits a b (allows a h (omega arith)) (allows b (omega arith) k) in
      rw y (ap (keeps v g) (run-enough (replying program) g (limited limits a) a b o (rw (replying-made program g b) m)))

  -- ---- what turns a call back

  -- within the limits, more draws needed than allowed and nothing else
  pub value-ends : (a : ℕ) → limits && allowed a ≡ true → (why : Refusal) → (value_call limits program v g a).answer ≡ Proposals.Refused why → why ≡ Allowance a
  unfolding value_call keeps ended replied onward
  value-ends a h why q = drawn (run program (supply_of g a)) (rw (h, replying-run program (supply_of g a)) at q)
    where
      drawn : (d : Drawn (Change P)) → (keeps v g (ended a (replied d))).answer ≡ Proposals.Refused why → why ≡ Allowance a
      drawn spent e = cc
      drawn (got declined u) e = clash cc
      drawn (got (scaled w r) u) e = clash cc

  -- a parameter outside its limits, or more draws needed than allowed
  pub value-refusals : (a : ℕ) (why : Refusal) → (value_call limits program v g a).answer ≡ Proposals.Refused why → (why ≡ Parameter 0) ⊎ (why ≡ Allowance a)
  unfolding value_call keeps
  value-refusals a why q = go (limits && allowed a) refl
    where
      outside : limits && allowed a ≡ false → why ≡ Parameter 0
      outside f = let e = rw f at q in cc

      go : (b : Bool) → limits && allowed a ≡ b → (why ≡ Parameter 0) ⊎ (why ≡ Allowance a)
      go true f = inr (value-ends a f why q)
      go false f = inl (outside f)
