-- What every call on a tree leaves, whatever its checks and its program: RunLaws on the answer, the generator and the slices. In order: what is not
-- changed (`leaves-refused`, `leaves_kept`); draws (`leaves-steps`, `leaves-within`, `leaves-draws`); other allowances (`leaves-larger`, `leaves-enough`); and how the
-- program's run ended, by the answer (`leaves-moved`, `leaves-declined`, `leaves-infinite`, `leaves-outside`). Assumes nothing.
use Rattle.std.specs.Prelude.{◌≡◌, ℕ, ◌≤◌, Result, Ok, Err}
use Rattle.std.proofs.Math.Path.{refl, ap}
use Rattle.std.proofs.Common.{◌∙◌}
use native.Mathlib.Omega.{arith}
use Rattle.answer.specs.declared.Refusal.{Refusal}
use Rattle.answer.specs.declared.Refusal.TheVariants.{Allowance, NotFinite, Outside}
use Rattle.answer.specs.declared.Moved.{Moved}
use Rattle.answer.specs.declared.Answer.{Answer}
use Rattle.answer.specs.declared.Answer.TheVariants as Answers
use Rattle.answer.specs.Answers.{number_of, draws_of}
use Rattle.random.specs.declared.Random.{Random}
use Rattle.random.specs.declared.Supply.{Supply}
use Rattle.random.specs.Generator.{after}
use Rattle.random.specs.Draw.{Draw, Drawn, spent, got, run, supply_of}
use Rattle.tree.specs.Tree.{Tree}
use Rattle.tree.specs.Given.{tree_of}
use Rattle.accepted.specs.RefusalLaws.{AtMost}
use Rattle.calls.specs.Call.{Reply, makes, not_finite, outside, Ending, refused, given, ended, draws_made, run_call, Outcome, declined, moved, called_on, leaves}
use Rattle.calls.proofs.RunLaws.{clash, run-given, run-steps, run-within, run-draws, run-larger, run-enough}

-- the call passed its checks, and its program's run ended in a reply
pub record Replied (program : Draw (Reply Outcome)) (g : Random) (v : Result (Unit {0}) Refusal) (a : ℕ) (r : Reply Outcome) : Type 0 where
  pub fine : v ≡ (Ok tt)
  pub supply : Supply
  pub ran : run program (supply_of g a) ≡ got r supply

module _ (t : Tree) (program : Draw (Reply Outcome)) (g : Random) where
  module _ (v : Result (Unit {0}) Refusal) (a : ℕ) where
    abbrev ending : Ending Outcome
    ending = run_call v program g a

    -- ---- what is not changed

    -- a refused call hands back the generator, the pairs, the parents and the heights as they came
    pub leaves-refused : (why : Refusal) → (leaves t g (run_call v program g a)).answer ≡ Answers.Refused why
        → leaves t g (run_call v program g a) ≡ called_on (Answers.Refused why) g t
    unfolding leaves
    leaves-refused why = go ending
      where
        go : (x : Ending Outcome) → (leaves t g x).answer ≡ Answers.Refused why → leaves t g x ≡ called_on (Answers.Refused why) g t
        go (refused y) e = ap (λ (b : Answer). called_on b g t) e
        go (given declined d h) e = clash cc
        go (given (moved u r) d h) e = clash cc

    -- a declined call hands back the pairs, the parents and the heights as they came
    pub leaves_kept : (draws : ℕ) → (leaves t g (run_call v program g a)).answer ≡ Answers.Declined draws
        → leaves t g (run_call v program g a) ≡ called_on (Answers.Declined draws) (after draws g) t
    unfolding leaves
    leaves_kept draws = go ending refl
      where
        go : (x : Ending Outcome) → ending ≡ x → (leaves t g x).answer ≡ Answers.Declined draws → leaves t g x ≡ called_on (Answers.Declined draws) (after draws g) t
        go (refused why) e q = clash cc
        go (given declined d h) e q =
            let ed : d ≡ draws = cc in
            let eh : h ≡ after draws g = run-steps program g v a declined d h e ∙ ap (λ (k : ℕ). after k g) ed in
            λ i. called_on (Answers.Declined (ed i)) (eh i) t
        go (given (moved u r) d h) e q = clash cc

    -- ---- draws

    -- the generator is stepped as often as the answer says that draws were made, and a refused call makes none
    pub leaves-steps : (leaves t g (run_call v program g a)).random ≡ after (draws_of (leaves t g (run_call v program g a)).answer) g
    unfolding leaves after
    leaves-steps = go ending refl
      where
        go : (x : Ending Outcome) → ending ≡ x → (leaves t g x).random ≡ after (draws_of (leaves t g x).answer) g
        go (refused why) e = refl
        go (given declined d h) e = run-steps program g v a declined d h e
        go (given (moved u r) d h) e = run-steps program g v a (moved u r) d h e

    -- no more than are allowed
    pub leaves-within : draws_of (leaves t g (run_call v program g a)).answer ≤ a
    unfolding leaves
    leaves-within = go ending refl
      where
        go : (x : Ending Outcome) → ending ≡ x → draws_of (leaves t g x).answer ≤ a
        go (refused why) e = omega arith
        go (given declined d h) e = run-within program g v a declined d h e
        go (given (moved u r) d h) e = run-within program g v a (moved u r) d h e

    -- a call that is not refused says as many as its program makes
    pub leaves-draws : ((why : Refusal) → (leaves t g (run_call v program g a)).answer ≡ Answers.Refused why → ⊥)
        → draws_of (leaves t g (run_call v program g a)).answer ≡ draws_made program g a
    unfolding leaves
    leaves-draws = go ending refl
      where
        go : (x : Ending Outcome) → ending ≡ x → ((why : Refusal) → (leaves t g x).answer ≡ Answers.Refused why → ⊥) → draws_of (leaves t g x).answer ≡ draws_made program g a
        go (refused why) e n = absurd (n why refl)
        go (given declined d h) e n = run-draws program g v a declined d h e
        go (given (moved u r) d h) e n = run-draws program g v a (moved u r) d h e

  -- ---- other allowances

  -- the checks say v of the allowance a, and w of b
  module _ (v w : Result (Unit {0}) Refusal) (a b : ℕ) where
    -- what was answered with an allowance is answered with a larger one of which the checks say the same, unless it was a 6
    pub leaves-larger : w ≡ v → a ≤ b → ((leaves t g (run_call v program g a)).answer ≡ Answers.Refused (Allowance a) → ⊥)
        → leaves t g (run_call w program g b) ≡ leaves t g (run_call v program g a)
    unfolding leaves
    leaves-larger y o n = rw y (ap (leaves t g) (run-larger program g v a b o (λ e. n (ap (λ (x : Ending Outcome). (leaves t g x).answer) e))))

    -- an allowance of as many draws as the program makes is enough, whatever it ends in: a 6 is answered only where more draws would be made
    pub leaves-enough : w ≡ v → a ≤ b → draws_made program g b ≤ a → leaves t g (run_call v program g a) ≡ leaves t g (run_call w program g b)
    leaves-enough y o m = rw y (ap (leaves t g) (run-enough program g v a b o m))

  -- ---- how the program's run ended

  module _ (v : Result (Unit {0}) Refusal) (a : ℕ) where
    given_so : (o : Outcome) (d : ℕ) (h : Random) → run_call v program g a ≡ given o d h → Replied program g v a (makes o)
    given_so o d h e = let c = run-given program g v a o d h e in record { fine = c.fine; supply = supply_of h c.left; ran = c.ran }

    -- a moved call has made the tree that it leaves, with its ratio
    pub leaves-moved : (m : Moved) → (leaves t g (run_call v program g a)).answer ≡ Answers.Moved m
        → let c = leaves t g (run_call v program g a) in Replied program g v a (makes (moved (tree_of c.pairs c.parents c.heights m.root) m.ratio))
    unfolding leaves
    leaves-moved m = go (run_call v program g a) refl
      where
        go : (x : Ending Outcome) → run_call v program g a ≡ x → (leaves t g x).answer ≡ Answers.Moved m
            → let c = leaves t g x in Replied program g v a (makes (moved (tree_of c.pairs c.parents c.heights m.root) m.ratio))
        go (refused why) e q = clash cc
        go (given declined d h) e q = clash cc
        go (given (moved u r) d h) e q =
            let er : u.root ≡ m.root = cc in
            let eq : r ≡ m.ratio = cc in
            let c = given_so (moved u r) d h e in
            record { fine = c.fine; supply = c.supply; ran = c.ran ∙ (λ i. got (makes (moved (tree_of u.pairs u.parents u.heights (er i)) (eq i))) c.supply) }

    -- a declined call has declined
    pub leaves-declined : (draws : ℕ) → (leaves t g (run_call v program g a)).answer ≡ Answers.Declined draws → Replied program g v a (makes declined)
    unfolding leaves
    leaves-declined draws = go (run_call v program g a) refl
      where
        go : (x : Ending Outcome) → run_call v program g a ≡ x → (leaves t g x).answer ≡ Answers.Declined draws → Replied program g v a (makes declined)
        go (refused why) e q = clash cc
        go (given declined d h) e q = given_so declined d h e
        go (given (moved u r) d h) e q = clash cc

    -- where the checks refuse with 5 at most, a call that is refused with 6 or more passed them
    late : (w : Result (Unit {0}) Refusal) → AtMost 5 w → (why : Refusal) → 6 ≤ number_of why → (leaves t g (run_call w program g a)).answer ≡ Answers.Refused why → w ≡ (Ok tt)
    unfolding leaves
    late (Ok tt) few why h e = refl
    late (Err z) few why h e = let same : z ≡ why = cc in let k : number_of why ≤ 5 = rw same at few in absurd (omega arith)

    module _ (y : v ≡ (Ok tt)) where
      turned : (why : Refusal) → (leaves t g (run_call v program g a)).answer ≡ Answers.Refused why → ended a (run program (supply_of g a)) ≡ refused why
      unfolding leaves
      turned why q = go (ended a (run program (supply_of g a))) (rw y at q)
        where
          go : (x : Ending Outcome) → (leaves t g x).answer ≡ Answers.Refused why → x ≡ refused why
          go (refused z) e = let s : z ≡ why = cc in ap refused s
          go (given declined d h) e = clash cc
          go (given (moved u r) d h) e = clash cc

    -- a 7 is the program's
    pub leaves-infinite : AtMost 5 v → (k : ℕ) → (leaves t g (run_call v program g a)).answer ≡ Answers.Refused (NotFinite k) → Replied program g v a (not_finite k)
    unfolding ended
    leaves-infinite few k q = let y = late v few (NotFinite k) (omega arith) q in go y (run program (supply_of g a)) refl (turned y (NotFinite k) q)
      where
        go : v ≡ (Ok tt) → (d : Drawn (Reply Outcome)) → run program (supply_of g a) ≡ d → ended a d ≡ refused (NotFinite k) → Replied program g v a (not_finite k)
        go y spent e q = clash cc
        go y (got (not_finite j) s) e q = let z : j ≡ k = cc in record { fine = y; supply = s; ran = e ∙ ap (λ (i : ℕ). got (not_finite i) s) z }
        go y (got (outside j) s) e q = clash cc
        go y (got (makes o) s) e q = clash cc

    -- an 8 is the program's
    pub leaves-outside : AtMost 5 v → (k : ℕ) → (leaves t g (run_call v program g a)).answer ≡ Answers.Refused (Outside k) → Replied program g v a (outside k)
    unfolding ended
    leaves-outside few k q = let y = late v few (Outside k) (omega arith) q in go y (run program (supply_of g a)) refl (turned y (Outside k) q)
      where
        go : v ≡ (Ok tt) → (d : Drawn (Reply Outcome)) → run program (supply_of g a) ≡ d → ended a d ≡ refused (Outside k) → Replied program g v a (outside k)
        go y spent e q = clash cc
        go y (got (not_finite j) s) e q = clash cc
        go y (got (outside j) s) e q = let z : j ≡ k = cc in record { fine = y; supply = s; ran = e ∙ ap (λ (i : ℕ). got (outside i) s) z }
        go y (got (makes o) s) e q = clash cc
