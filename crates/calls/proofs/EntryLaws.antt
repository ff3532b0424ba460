-- For the entry points of the moves. A checked one validates the tree and goes on as the unvalidated one of its name, which tests the limits,
-- makes its turn and answers. In order: what a check that passed has passed (`passed`); a tree that was validated (`tree-refused`, and for tree
-- moves `entry_laws`); an accepted tree, whose limits were tested (`accepted-checked`, `limits-refused`, `limits-passed`); and for tree moves any slices,
-- whose limits were tested (`unvalidated_laws`). Assumes nothing.
use Rattle.std.specs.Prelude.{◌≡◌, Bool, true, false, ◌&&◌, cond, List, ℕ, Float, Result, Ok, Err}
use Rattle.std.proofs.Math.Path.{refl}
use Rattle.std.proofs.Common.{sym, ap, ◌∙◌}
use Rattle.std.proofs.Math.Bool.{and-eq-true_iff}
use Rattle.answer.specs.declared.Refusal.{Refusal}
use Rattle.answer.specs.declared.Refusal.TheVariants.{Parameter}
use Rattle.random.specs.declared.Random.{Random}
use Rattle.random.specs.Draw.{Draw, Drawn, spent, got, run, supply_of, allowed}
use Rattle.tree.specs.Tree.{Tree, nodes_of}
use Rattle.tree.specs.New.{Accepted, validated}
use Rattle.tree.specs.Valid.{Valid}
use Rattle.tree.specs.Given.{tree_of}
use Rattle.accepted.specs.AcceptedLaws.{accepted-valid, valid-accepted}
use Rattle.accepted.specs.ValidatedLaws.{fine-valid, valid-fine}
use Rattle.calls.specs.declared.Answered.{Answered}
use Rattle.calls.specs.declared.Turn.{Turn}
use Rattle.calls.specs.Call.{Reply, makes, not_finite, outside, Outcome, declined, moved, refused, ended, and_then, limited, checked, call_of, Called, called, leaves, tree_call}
use Rattle.calls.specs.Given.{after, turn_of, turned_back, answered_of}
use Rattle.calls.specs.Harmless.{Unvalidated, Turning}
use Rattle.calls.proofs.HarmlessLaws.{answering, refused-harmless, turn-harmless}
use Rattle.calls.proofs.RunLaws.{clash}

-- ---- a check that passed

-- each of the three tests passed
pub record Passed (limits : Bool) (t : Tree) (allowance : ℕ) : Type 0 where
  pub tree : validated t ≡ (Ok tt)
  pub within : limits ≡ true
  pub allows : allowed allowance ≡ true

-- where the check is fine, each did
pub passed : (limits : Bool) (t : Tree) (allowance : ℕ) → checked limits t allowance ≡ (Ok tt) → Passed limits t allowance
unfolding checked
passed limits t allowance = go (validated t) refl (limits && allowed allowance) refl
  where
    go : (v : Result (Unit {0}) Refusal) → validated t ≡ v → (b : Bool) → limits && allowed allowance ≡ b → and_then v (cond b (Ok tt) (Err (Parameter 0))) ≡ (Ok tt) → Passed limits t allowance
    go (Ok tt) e true f h = let p = (and-eq-true_iff limits (allowed allowance)).0 f in record { tree = e; within = p.0; allows = p.1 }
    go (Ok tt) e false f h = clash cc
    go (Err why) e b f h = clash cc

-- ---- a tree that was validated

-- v is what was said of it
module _ (pairs parents : List ℕ) (heights : List Float) (root : ℕ) (v : Result (Unit {0}) Refusal) (e : v ≡ validated (tree_of pairs parents heights root)) where
  abbrev given : Tree
  given = tree_of pairs parents heights root

  -- what is refused there is what the call refuses
  pub tree-refused : {A : Type 0} (limits : Bool) (program : Draw (Reply A)) (g : Random) (allowance : ℕ) (why : Refusal) → v ≡ Err why
      → call_of limits program given g allowance ≡ refused why
  unfolding call_of checked
  tree-refused limits program g allowance why y = rw (← e, y)

  -- what is fine is accepted
  pub tree-accepted : v ≡ (Ok tt) → Accepted (tree_of pairs parents heights root)
  tree-accepted y = valid-accepted (nodes_of pairs) given (fine-valid given (sym e ∙ y))

  module _ (limits : Bool) (program : Draw (Reply Outcome)) (g : Random) (allowance : ℕ) where
    -- what is answered where the tree is refused is the call
    pub entry-refused : (why : Refusal) → v ≡ Err why → (r : Answered) → r ≡ turned_back why g
        → called r.answer r.random pairs parents heights ≡ tree_call limits program (tree_of pairs parents heights root) g allowance
    unfolding tree_call leaves
    entry-refused why y r er = rw (er, tree-refused limits program g allowance why y)

    -- and where it is fine, what the unvalidated call leaves
    pub entry_done : v ≡ (Ok tt) → (c : Called) → Unvalidated limits program (tree_of pairs parents heights root) g allowance c
        → c ≡ tree_call limits program (tree_of pairs parents heights root) g allowance
    entry_done y c u = u.decided (tree-accepted y)

pub ruleset entry_laws = (entry-refused, entry_done)

-- ---- an accepted tree

-- its call is checked for its limits alone
pub accepted-checked : (t : Tree) → Accepted t → (limits : Bool) (allowance : ℕ) → checked limits t allowance ≡ limited limits allowance
unfolding checked
accepted-checked t h limits allowance = rw (valid-fine (nodes_of t.pairs) t (accepted-valid t h))

-- v is what was said of the limits
module _ (t : Tree) (h : Accepted t) (limits : Bool) (allowance : ℕ) (v : Result (Unit {0}) Refusal) (e : v ≡ limited limits allowance) where
  -- what is refused there is what the call refuses
  pub limits-refused : {A : Type 0} (program : Draw (Reply A)) (g : Random) (why : Refusal) → v ≡ Err why → call_of limits program t g allowance ≡ refused why
  unfolding call_of
  limits-refused program g why y = rw (accepted-checked t h limits allowance, ← e, y)

  -- past them the call is what its program's run ends in
  pub limits-passed : {A : Type 0} (program : Draw (Reply A)) (g : Random) → v ≡ (Ok tt)
      → call_of limits program t g allowance ≡ ended allowance (run program (supply_of g allowance))
  unfolding call_of
  limits-passed program g y = rw (accepted-checked t h limits allowance, ← e, y)

-- ---- a turn on the tree t, from the call's supply

module _ (t : Tree) (g : Random) (allowance : ℕ) (turn : Turn) (pairs parents : List ℕ) (heights : List Float) where
  settled : (d : Drawn (Reply Outcome)) → answering g allowance (turn_of t (supply_of g allowance) d) ≡ leaves t g (ended allowance d)
  unfolding turn_of answered_of leaves ended
  settled spent = refl
  settled (got (not_finite k) u) = refl
  settled (got (outside k) u) = refl
  settled (got (makes declined) u) = refl
  settled (got (makes (moved w r)) u) = refl

  -- what is answered after the turn is what the program's run ends in
  pub answered-run : (program : Draw (Reply Outcome)) → after turn pairs parents heights ≡ turn_of t (supply_of g allowance) (run program (supply_of g allowance))
      → (r : Answered) → r ≡ answered_of turn.turned turn.supply g allowance
      → called r.answer r.random pairs parents heights ≡ leaves t g (ended allowance (run program (supply_of g allowance)))
  answered-run program e r er = rw er (ap (answering g allowance) e ∙ settled (run program (supply_of g allowance)))

-- ---- the unvalidated call

-- b is whether the parameters are within their limits, and v what was said of it
module _ (pairs parents : List ℕ) (heights : List Float) (root : ℕ) (limits b : Bool) (eb : b ≡ limits) (allowance : ℕ) (v : Result (Unit {0}) Refusal) (ev : v ≡ limited b allowance)
    (program : Draw (Reply Outcome)) (g : Random) where
  abbrev lent : Tree
  lent = tree_of pairs parents heights root

  e : v ≡ limited limits allowance
  e = ev ∙ ap (λ (x : Bool). limited x allowance) eb

  -- what is answered where the limits are refused
  pub unvalidated-refused : (why : Refusal) → v ≡ Err why → (r : Answered) → r ≡ turned_back why g
      → Unvalidated limits program (tree_of pairs parents heights root) g allowance (called r.answer r.random pairs parents heights)
  unfolding tree_call leaves
  unvalidated-refused why y r er =
      record {
        decided = λ h. rw (er, limits-refused lent h limits allowance v e program g why y);
        harmless = rw er (refused-harmless limits lent g allowance v e why y);
      }

  -- and what is answered after the turn
  pub unvalidated-done : v ≡ (Ok tt) → (turn : Turn) (ps qs : List ℕ) (hs : List Float)
      → Turning (Valid (nodes_of pairs) (tree_of pairs parents heights root)) (turn_of (tree_of pairs parents heights root) (supply_of g allowance) (run program (supply_of g allowance)))
      (tree_of pairs parents heights root) (supply_of g allowance) (after turn ps qs hs)
      → (r : Answered) → r ≡ answered_of turn.turned turn.supply g allowance
      → Unvalidated limits program (tree_of pairs parents heights root) g allowance (called r.answer r.random ps qs hs)
  unfolding tree_call
  unvalidated-done y turn ps qs hs f r er =
      record {
        decided = λ h.
            rw (limits-passed lent h limits allowance v e program g y) (answered-run lent g allowance turn ps qs hs program (f.decided (accepted-valid lent h)) r er);
        harmless = rw er (turn-harmless limits lent g allowance v e y (after turn ps qs hs) f.mild);
      }

pub ruleset unvalidated_laws = (unvalidated-refused, unvalidated-done)
