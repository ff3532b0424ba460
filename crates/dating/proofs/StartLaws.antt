-- The ways through what `initialize` does past its checks (`start_laws`), and through the call (`initialize_laws`). Assumes nothing.
use mathlib.Core.Path.{◌≡◌, sym, ◌∙◌}
use mathlib.Core.Bool.{Bool}
use mathlib.Core.List.{List, []}
use Prim.Native.Nat.{ℕ, ◌≤◌, ◌<◌}
use lib.ListN.{length, get_or}
use lib.Ieee.{Float, nan}
use borrow.Author.Tests.{lt-ltb, le-ltb}
use Rattle.answer.specs.declared.Refusal.{Refusal}
use Rattle.answer.specs.declared.Refusal.TheVariants.{NotFinite}
use Rattle.tree.specs.Tree.{Tree, nodes_of, tips_of, height}
use Rattle.tree.specs.Given.{tree_of, kin_in}
use Rattle.accepted.specs.ValidatedLaws.{fine-valid}
use Rattle.calls.specs.Draws.{least}
use Rattle.process.specs.declared.FossilizedBirthDeath.{FossilizedBirthDeath}
use Rattle.ages.specs.Ages.{table_checked}
use Rattle.dating.specs.Initialize.{oldest, stretch, start_of, overflows_at, initial_to, start_fits, all_finite, initialized, initialize_call}
use Rattle.dating.specs.Given.{start_with, start_in, start_call}
use Rattle.ages.specs.CheckedLaws.{passed}
use Rattle.dating.proofs.InitializeLaws.{initial-whole}
use Rattle.std.specs.Prelude.{Result, Ok, Err}

-- ---- past the checks

module _ (hs minima maxima : List Float) (root : ℕ) (origin : Float) (m : ℕ) (em : m ≡ tips_of (length hs)) (old : Float)
    (eo : old ≡ oldest minima maxima m) (top : Float) (et : top ≡ get_or hs root nan) (factor : Float) (ef : factor ≡ stretch origin old top) (k : ℕ)
    (ek : k ≡ least (overflows_at (start_with (length hs) minima maxima old factor) (kin_in [] hs)) (length hs)) where
  same : start_in (length hs) minima maxima origin (get_or hs root nan) ≡ start_with (length hs) minima maxima old factor
  same = rw (ef, eo, em, et)

  pub start-not-finite : k < length hs
      → initialized (Err (NotFinite k)) hs ≡ start_call (start_in (length hs) minima maxima origin (get_or hs root nan)) (kin_in [] hs)
  unfolding all_finite
  start-not-finite l = rw (same, ← ek, lt-ltb k (length hs) l)

  pub start-done : length hs ≤ k → (new : List Float) → new ≡ initial_to (start_with (length hs) minima maxima old factor) (kin_in [] hs) (length hs)
      → initialized (Ok tt) new ≡ start_call (start_in (length hs) minima maxima origin (get_or hs root nan)) (kin_in [] hs)
  unfolding all_finite
  start-done l new e = rw (same, ← ek, le-ltb k (length hs) l, e)

pub ruleset start_laws = (start-not-finite, start-done)

-- ---- the call

-- r is what the checks say
module _ (p : FossilizedBirthDeath) (minima maxima : List Float) (pairs parents : List ℕ) (hs : List Float) (root : ℕ) (limits : Bool)
    (el : limits ≡ start_fits minima maxima p (tree_of pairs [] hs root)) (r : Result (Unit {0}) Refusal)
    (u : r ≡ table_checked p minima maxima (tree_of pairs parents hs root) limits) where
  abbrev t : Tree
  t = tree_of pairs parents hs root

  -- the limits are those of the call
  fits : limits ≡ start_fits minima maxima p t
  unfolding start_fits height
  fits = el

  pub initialize-refused : (why : Refusal) → r ≡ Err why → initialized (Err why) hs ≡ initialize_call minima maxima p t
  unfolding initialize_call
  initialize-refused why y = rw (← fits, ← u, y)

  pub initialize-done : r ≡ (Ok tt) → (w : Result (Unit {0}) Refusal) (new : List Float)
      → initialized w new ≡ start_call (start_in (length hs) minima maxima p.origin (get_or hs root nan)) (kin_in [] hs) → initialized w new ≡ initialize_call minima maxima p t
  unfolding initialize_call all_finite height
  initialize-done y w new e =
      let c = passed p minima maxima t limits (sym u ∙ y) in
      let long : length hs ≡ nodes_of pairs = (fine-valid t c.tree).sized.heights in
      let whole = initial-whole (start_of minima maxima p.origin t) t (nodes_of pairs) in
      rw (← fits, ← u, y, whole, ← long) e

pub ruleset initialize_laws = (initialize-refused, initialize-done)
