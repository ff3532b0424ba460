-- The ways through TipAge: a height for the tip (`age_tip_laws`), the turn (`tip_age_laws`), and the call (`propose_laws`). Assumes nothing.
use mathlib.Core.Path.{◌≡◌}
use mathlib.Core.Bool.{Bool, true, false, ◌&&◌}
use mathlib.Core.List.{List}
use Prim.Native.Nat.{ℕ}
use lib.ListN.{get_or, set}
use lib.Ieee.{Float, nan, le}
use Rattle.answer.specs.declared.Refusal.{Refusal}
use Rattle.answer.specs.declared.Ratio.TheVariants.{Even}
use Rattle.random.specs.declared.Random.{Random}
use Rattle.random.specs.declared.Supply.{Supply}
use Rattle.random.specs.Draw.{below, uniform, pick, run, drawn, supply_of, allowed}
use Rattle.random.proofs.DrawLaws.{draw-got, draw-spent}
use Rattle.random.specs.SupplyLaws.{drawn-got, drawn-spent}
use Rattle.tree.specs.Tree.{Tree, nodes_of, tips_of, parent, height}
use Rattle.tree.specs.Given.{tree_of}
use Rattle.edits.specs.Slots.{set_height}
use Rattle.rules.specs.Rules.{ceiling, tip_age_declines, tip_moved}
use Rattle.calls.specs.declared.Answered.{Answered}
use Rattle.calls.specs.declared.Turn.{Turn}
use Rattle.calls.specs.declared.Turned.TheVariants as Turns
use Rattle.calls.specs.Call.{Outcome, moved, called, leaves}
use Rattle.calls.specs.Given.{after, after_on, turn_of, turned_back, answered_of, height_of}
use Rattle.calls.proofs.EntryLaws.{answered-run}
use Rattle.calls.proofs.HeightLaws.{height-spent, height-inside, height-outside}
use Rattle.process.specs.declared.FossilizedBirthDeath.{FossilizedBirthDeath}
use Rattle.process.specs.Process.{process_finite}
use Rattle.ages.specs.declared.TipAge.{TipAge}
use Rattle.ages.specs.Ages.{age_of, table_checked}
use Rattle.dating.specs.TipAge.{ageing, tip_age, ages_checked, tip_age_call}
use Rattle.dating.specs.Given.{left_to}
use Rattle.std.specs.Prelude.{Some, None, Result, Ok, Err}

-- ---- a height for tip k

-- p is its parent, at the height above; l is the interval that is left
module _ (pairs parents : List ℕ) (hs : List Float) (root k : ℕ) (a : TipAge) (between s : Supply) (p : ℕ) (ep : p ≡ get_or parents k 0) (above : Float)
    (eh : above ≡ get_or hs p nan) (l : TipAge) (el : l ≡ left_to a above) where
  abbrev here : Tree
  here = tree_of pairs parents hs root

  abbrev make : Float → Outcome
  make x = moved (tip_moved here k x) Even

  least : l.minimum ≡ a.minimum
  least = rw el

  greatest : l.maximum ≡ ceiling here k a.maximum
  unfolding parent height
  greatest = rw (el, eh, ep)

  pub age-declined : le l.maximum l.minimum ≡ true → (r : Turn) → r ≡ record { turned = Turns.Declined; supply = between }
      → after r pairs parents hs ≡ turn_of here s (run (ageing here k a) between)
  unfolding ageing turn_of run tip_age_declines
  age-declined h r er = rw (er, ← greatest, ← least, h)

  module _ (h : le l.maximum l.minimum ≡ false) where
    pub age_spent : None ≡ drawn (run uniform between) → after_on Turns.Spent s here ≡ turn_of here s (run (ageing here k a) between)
    unfolding ageing turn_of tip_age_declines
    age_spent e = rw (← greatest, ← least, h, height-spent k l.minimum l.maximum make between e)

    -- u is the uniform, and last the supply after it
    module _ (u : Float) (last : Supply) (e : Some (u, last) ≡ drawn (run uniform between)) where
      pub age-outside : None ≡ height_of l.minimum l.maximum u → after_on (Turns.Outside k) last here ≡ turn_of here s (run (ageing here k a) between)
      unfolding ageing turn_of tip_age_declines
      age-outside q = rw (← greatest, ← least, h, height-outside k l.minimum l.maximum make between u last e q)

      pub age-moved : (x : Float) → Some x ≡ height_of l.minimum l.maximum u → (new : List Float) → new ≡ set hs k x
          → after_on (Turns.Moved root Even) last (tree_of pairs parents new root) ≡ turn_of here s (run (ageing here k a) between)
      unfolding ageing turn_of tip_age_declines set_height
      age-moved x q new w = rw (← greatest, ← least, h, height-inside k l.minimum l.maximum make between u last e x q, w)

pub ruleset age_tip_laws = (age-declined, age_spent, age-outside, age-moved)

-- ---- the turn

-- of m tips
module _ (minima maxima : List Float) (pairs parents : List ℕ) (hs : List Float) (root : ℕ) (s : Supply) (m : ℕ) (em : m ≡ tips_of (nodes_of pairs)) where
  abbrev t : Tree
  t = tree_of pairs parents hs root

  pub turn-spent : None ≡ drawn (pick (below m) s) → after_on Turns.Spent s t ≡ turn_of t s (run (tip_age minima maxima t) s)
  unfolding tip_age turn_of
  turn-spent e = rw (draw-spent _ _ s (drawn-spent (pick (below (tips_of (nodes_of pairs))) s) (rw (← em) e)))

  pub turn-aged : (k : ℕ) (u : Supply) → Some (k, u) ≡ drawn (pick (below m) s) → (a : TipAge) → a ≡ age_of minima maxima k → (r : Turn) (new : List Float)
      → ((any : List ℕ) → after r any parents new ≡ turn_of (tree_of any parents hs root) s (run (ageing (tree_of any parents hs root) k a) u))
      → after r pairs parents new ≡ turn_of t s (run (tip_age minima maxima t) s)
  unfolding tip_age
  turn-aged k u e a ea r new er = rw (er pairs, ea, draw-got _ _ s k u (drawn-got (pick (below (tips_of (nodes_of pairs))) s) k u (rw (← em) e)))

pub ruleset tip_age_laws = (turn-spent, turn-aged)

-- ---- the call

-- v is what the checks say
module _ (p : FossilizedBirthDeath) (minima maxima : List Float) (pairs parents : List ℕ) (hs : List Float) (root : ℕ) (g : Random) (allowance : ℕ) (limits : Bool)
    (el : limits ≡ (process_finite p && allowed allowance)) (v : Result (Unit {0}) Refusal)
    (u : v ≡ table_checked p minima maxima (tree_of pairs parents hs root) limits) where
  abbrev tree : Tree
  tree = tree_of pairs parents hs root

  -- the checks are those of the call
  same : v ≡ ages_checked minima maxima p tree allowance
  unfolding ages_checked
  same = rw (← el) u

  pub propose-refused : (why : Refusal) → v ≡ Err why → (r : Answered) → r ≡ turned_back why g → called r.answer r.random pairs parents hs ≡ tip_age_call minima maxima p tree g allowance
  unfolding tip_age_call leaves
  propose-refused why y r er = rw (← same, y, er)

  pub propose-done : v ≡ (Ok tt) → (turn : Turn) (new : List Float)
      → after turn pairs parents new ≡ turn_of tree (supply_of g allowance) (run (tip_age minima maxima tree) (supply_of g allowance))
      → (r : Answered) → r ≡ answered_of turn.turned turn.supply g allowance → called r.answer r.random pairs parents new ≡ tip_age_call minima maxima p tree g allowance
  unfolding tip_age_call
  propose-done y turn new e r er = rw (← same, y) (answered-run tree g allowance turn pairs parents new (tip_age minima maxima tree) e r er)

pub ruleset propose_laws = (propose-refused, propose-done)
