-- What holds of every call that was checked, whatever its checks and its program. In order: what a call that was not turned back has drawn
-- (`run-given`); steps: the generator after it is the one before, stepped as often as the call says that it drew (`run-steps`), and that is within
-- the allowance (`run-within`) and as many as its program makes (`run-draws`); a larger allowance changes nothing but a 6 (`run-larger`), and one that is
-- just enough for the program is enough, whatever it ends in (`run-enough`); past the checks only 6, 7 and 8 turn a call back (`run-refused`). Assumes nothing.
use Rattle.std.specs.Prelude.{◌≡◌, ◌⊎◌, ℕ, ◌+◌, ◌-◌, ◌≤◌, Result, Ok, Err}
use Rattle.std.proofs.Math.Path.{refl, sym}
use Rattle.std.proofs.Common.{ap, ◌∙◌, subst, arith}
use Rattle.std.proofs.Math.Logic.{inl, inr}
use Rattle.answer.specs.declared.Refusal.{Refusal}
use Rattle.answer.specs.declared.Refusal.TheVariants.{Allowance, NotFinite, Outside}
use Rattle.random.specs.declared.Random.{Random}
use Rattle.random.specs.declared.Supply.{Supply}
use Rattle.random.specs.Generator.{after}
use Rattle.random.specs.Draw.{Draw, Drawn, spent, got, run, supply_of}
use Rattle.random.specs.Lawful.{more}
use Rattle.random.proofs.DrawLaws.{run-lawful}
use Rattle.calls.specs.Call.{Reply, makes, not_finite, outside, refused, given, ended, left_of, draws_made, run_call}

-- for cases that cannot be: where two different constructors would be equal, `cc` makes this of them
pub clash : {X : Type 0} → ◌≡◌ {A = ℕ} 0 1 → X
clash z = absurd (omega arith)

module _ {A : Type 0} (program : Draw (Reply A)) (g : Random) where
  -- ---- a value

  -- the call passed its checks, and its program drew the value
  pub record Ran (verdict : Result (Unit {0}) Refusal) (allowance : ℕ) (a : A) (draws : ℕ) (h : Random) : Type 0 where
    pub fine : verdict ≡ (Ok tt)
    pub left : ℕ
    pub ran : run program (supply_of g allowance) ≡ got (makes a) (supply_of h left)
    pub made : draws ≡ allowance - left

  -- a call that gave a value passed its checks, and its program drew the value
  pub run-given : (v : Result (Unit {0}) Refusal) (allowance : ℕ) (a : A) (draws : ℕ) (h : Random) → run_call v program g allowance ≡ given a draws h → Ran v allowance a draws h
  unfolding ended
  run-given (Err why) allowance a draws h e = clash cc
  run-given (Ok tt) allowance a draws h e = drawn (run program (supply_of g allowance)) refl e
    where
      drawn : (d : Drawn (Reply A)) → run program (supply_of g allowance) ≡ d → ended allowance d ≡ given a draws h → Ran (Ok tt) allowance a draws h
      drawn spent e q = clash cc
      drawn (got (not_finite k) s) e q = clash cc
      drawn (got (outside k) s) e q = clash cc
      drawn (got (makes b) s) e q =
          let ea : b ≡ a = cc in
          let eh : s.random ≡ h = cc in
          let ed : allowance - s.left ≡ draws = cc in
          record { fine = refl; left = s.left; ran = e ∙ (λ i. got (makes (ea i)) (supply_of (eh i) s.left)); made = sym ed }

  module _ (v : Result (Unit {0}) Refusal) (allowance : ℕ) (a : A) (draws : ℕ) (h : Random) (e : run_call v program g allowance ≡ given a draws h) where
    -- the generator is stepped as often as the call says that it drew
    pub run-steps : h ≡ after draws g
    run-steps =
        let c = run-given v allowance a draws h e in
        ((run-lawful program).steps (supply_of g allowance) (makes a) (supply_of h c.left) c.ran).moved ∙ ap (λ (k : ℕ). after k g) (sym c.made)

    -- with no more draws than are allowed
    pub run-within : draws ≤ allowance
    run-within = let c = run-given v allowance a draws h e in let m = c.made in omega arith

    -- as many as its program makes
    pub run-draws : draws ≡ draws_made program g allowance
    run-draws = let c = run-given v allowance a draws h e in rw c.ran c.made

  -- ---- other allowances, of a call whose checks say the same

  -- the run with b draws in place of a, where a value was drawn
  module _ (a b : ℕ) (o : a ≤ b) (r : Reply A) (s : Supply) (e : run program (supply_of g a) ≡ got r s) where
    grown : run program (supply_of g b) ≡ got r (more (b - a) s)
    grown =
        let same : a + (b - a) ≡ b = omega arith in
        subst (λ (x : ℕ). run program (supply_of g x) ≡ got r (more (b - a) s)) same ((run-lawful program).allowance (b - a) (supply_of g a) r s e)

    as_many : b - (s.left + (b - a)) ≡ a - s.left
    as_many = let f = ((run-lawful program).steps (supply_of g a) r s e).fewer in omega arith

  -- the call with b in place of a, where the program ended in a reply
  alike : (a b : ℕ) → a ≤ b → (r : Reply A) (s : Supply) → run program (supply_of g a) ≡ got r s → ended b (run program (supply_of g b)) ≡ ended a (got r s)
  unfolding ended
  alike a b o (not_finite j) s e = rw (grown a b o (not_finite j) s e)
  alike a b o (outside j) s e = rw (grown a b o (outside j) s e)
  alike a b o (makes x) s e = rw (grown a b o (makes x) s e) (ap (λ (m : ℕ). given x m s.random) (as_many a b o (makes x) s e))

  -- what the call answered with an allowance it answers with a larger one, unless it was a 6
  pub run-larger : (v : Result (Unit {0}) Refusal) (a b : ℕ) → a ≤ b → (run_call v program g a ≡ refused (Allowance a) → ⊥) → run_call v program g b ≡ run_call v program g a
  run-larger (Err why) a b o n = refl
  run-larger (Ok tt) a b o n = drawn (run program (supply_of g a)) refl n
    where
      drawn : (d : Drawn (Reply A)) → run program (supply_of g a) ≡ d → (ended a d ≡ refused (Allowance a) → ⊥) → ended b (run program (supply_of g b)) ≡ ended a d
      drawn spent e n = absurd (n (unfold ended in refl))
      drawn (got r s) e n = alike a b o r s e

  -- an allowance of as many draws as the program makes is enough, whatever it ends in: a 6 is given only where more draws would be made
  pub run-enough : (v : Result (Unit {0}) Refusal) (a b : ℕ) → a ≤ b → draws_made program g b ≤ a → run_call v program g a ≡ run_call v program g b
  run-enough (Err why) a b o m = refl
  run-enough (Ok tt) a b o m = drawn (run program (supply_of g b)) refl m
    where
      drawn : (d : Drawn (Reply A)) → run program (supply_of g b) ≡ d → b - left_of d ≤ a → ended a (run program (supply_of g a)) ≡ ended b (run program (supply_of g b))
      drawn spent e m = let same : a ≡ b = omega arith in rw same
      drawn (got r s) e m =
          let f = ((run-lawful program).steps (supply_of g b) r s e).fewer in
          let u : Supply = supply_of s.random (s.left - (b - a)) in
          let grow : a + (b - a) ≡ b = omega arith in
          let room : s.left - (b - a) + (b - a) ≡ s.left = omega arith in
          let ran = (run-lawful program).spare (b - a) (supply_of g a) r u (rw (grow, room) e) in
          rw ran (sym (alike a b o r u ran))

  -- ---- what turns a call back

  -- past the checks, more draws needed than allowed, a height that is not finite, or one outside its interval
  pub run-refused : (v : Result (Unit {0}) Refusal) → v ≡ (Ok tt) → (allowance : ℕ) (why : Refusal) → run_call v program g allowance ≡ refused why
      → (why ≡ Allowance allowance) ⊎ ((k : ℕ) × ((why ≡ NotFinite k) ⊎ (why ≡ Outside k)))
  unfolding ended
  run-refused v y allowance why = rw y (drawn (run program (supply_of g allowance)))
    where
      drawn : (d : Drawn (Reply A)) → ended allowance d ≡ refused why → (why ≡ Allowance allowance) ⊎ ((k : ℕ) × ((why ≡ NotFinite k) ⊎ (why ≡ Outside k)))
      drawn spent e = inl cc
      drawn (got (not_finite k) s) e = inr (k, inl cc)
      drawn (got (outside k) s) e = inr (k, inr cc)
      drawn (got (makes a) s) e = clash cc
