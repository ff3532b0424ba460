-- The ways through the code of the unvalidated second call. i is the node. Assumes nothing.
use mathlib.Core.Path.{◌≡◌, sym, ◌∙◌}
use mathlib.Core.Bool.{Bool, not, ◌&&◌, and-eq-true_iff}
use mathlib.Core.List.{List, []}
use Prim.Native.Nat.{ℕ, ◌<◌}
use native.Mathlib.Omega.{arith}
use borrow.Author.Tests.{ltb-true}
use lib.Dec.{ltb, eqb}
use lib.ListN.{length}
use lib.Ieee.{Float}
use lib.Ieee.Scale.{finite}
use Rattle.answer.specs.declared.Refusal.{Refusal}
use Rattle.answer.specs.declared.Refusal.TheVariants.{Parameter}
use Rattle.random.specs.declared.Random.{Random}
use Rattle.random.specs.Draw.{run, supply_of}
use Rattle.tree.specs.Tree.{Tree, nodes_of}
use Rattle.tree.specs.Valid.{Valid}
use Rattle.tree.specs.Given.{tree_of}
use Rattle.tree.specs.ScanLaws.{neqb→ne}
use Rattle.accepted.specs.AcceptedLaws.{accepted-valid, valid-accepted}
use Rattle.calls.specs.declared.Answered.{Answered}
use Rattle.calls.specs.declared.Turn.{Turn}
use Rattle.calls.specs.Call.{limited, called}
use Rattle.calls.specs.Given.{after, turn_of, turned_back, answered_of}
use Rattle.calls.specs.Harmless.{Turning}
use Rattle.calls.proofs.HarmlessLaws.{back-harmless}
use Rattle.moves.specs.Programs as Programs
use Rattle.moves.specs.Programs.{slidable}
use Rattle.moves.specs.Moves.{subtree_slide, UnvalidatedCall}
use Rattle.calls.proofs.EntryLaws.{passed, accepted-checked, unvalidated-refused, unvalidated-done}
use Rattle.slide.specs.Slide.{Slidable}
use Rattle.std.specs.Prelude.{Result, Ok, Err}

-- its limits were passed: limits is whether the parameters are within them, and v what was said of that
module _ (pairs parents : List ℕ) (heights : List Float) (root i : ℕ) (step : Float) (limits : Bool) (el : limits ≡ slidable (tree_of pairs [] [] root) i step)
    (allowance : ℕ) (v : Result (Unit {0}) Refusal) (ev : v ≡ limited limits allowance) (y : v ≡ (Ok tt)) (g : Random) where
  abbrev t : Tree
  t = tree_of pairs parents heights root

  -- no tree that is accepted has so many places
  pub call-large : 8190 < length pairs → (why : Refusal) (r : Answered) → r ≡ turned_back why g
      → UnvalidatedCall (subtree_slide i step) t g allowance (called r.answer r.random pairs parents heights)
  call-large l why r er =
      record {
        decided = λ h. let z = (accepted-valid t h).sized in absurd (omega (arith, z.few, z.pairs));
        harmless = rw er (back-harmless (slidable t i step) t g allowance why (λ f. let z : (Ok tt) ≡ Err (Parameter 0) = sym y ∙ ev ∙ rw (el, f) in cc));
      }

  slides : Valid (nodes_of pairs) t → Slidable pairs parents heights root i
  slides w =
      let c = passed limits t allowance (accepted-checked t (valid-accepted (nodes_of pairs) t w) limits allowance ∙ sym ev ∙ y) in
      let p = (and-eq-true_iff (ltb i (nodes_of pairs) && not (eqb i root)) (finite step)).0 (sym el ∙ c.within) in
      let q = (and-eq-true_iff (ltb i (nodes_of pairs)) (not (eqb i root))).0 p.0 in
      record { valid = w; node = ltb-true i (nodes_of pairs) q.0; under = neqb→ne i root (rw q.1 tt) }

  -- pairs', parents' and heights' are what the turn left
  pub call-done : (turn : Turn) (pairs' parents' : List ℕ) (heights' : List Float)
      → Turning (Slidable pairs parents heights root i) (turn_of t (supply_of g allowance) (run (Programs.subtree_slide i step t) (supply_of g allowance))) t (supply_of g allowance)
      (after turn pairs' parents' heights')
      → (r : Answered) → r ≡ answered_of turn.turned turn.supply g allowance
      → UnvalidatedCall (subtree_slide i step) t g allowance (called r.answer r.random pairs' parents' heights')
  call-done turn pairs' parents' heights' e r er =
      unvalidated-done pairs parents heights root (slidable t i step) limits el allowance v ev (Programs.subtree_slide i step t) g y turn pairs' parents' heights'
      (record { decided = λ w. e.decided (slides w); mild = e.mild }) r er

pub ruleset call_laws = (unvalidated-refused, call-large, call-done)
