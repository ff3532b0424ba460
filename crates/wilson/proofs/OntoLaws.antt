-- The ways through the move when its nodes are drawn: the height drawn (`height_laws`), and the whole (`onto_laws`). Assumes nothing.
use mathlib.Core.Path.{◌≡◌, refl, ap, ◌∙◌}
use mathlib.Core.Bool.{Bool, true, false, cond}
use mathlib.Core.List.{List}
use Prim.Native.Nat.{ℕ}
use lib.ListN.{get_or}
use lib.Ieee.{Float}
use Rattle.std.specs.Prelude.{Option, Some, None}
use Rattle.answer.specs.declared.Ratio.TheVariants.{Lengths}
use Rattle.random.specs.declared.Supply.{Supply}
use Rattle.random.specs.Draw.{return, uniform, run, drawn}
use Rattle.real.specs.Real.{max_of}
use Rattle.tree.specs.Tree.{Tree, nodes_of, parent, height}
use Rattle.tree.specs.Given.{tree_of, dates_in}
use Rattle.rules.specs.Rules.{regraft, new_range, old_range, wilson_declines}
use Rattle.calls.specs.declared.Turned.TheVariants as Turns
use Rattle.calls.specs.Call.{makes, declined}
use Rattle.moves.specs.Programs.{wilson_height, onto}
use Rattle.calls.specs.Given.{After, after, turn_of, height_of}
use Rattle.calls.specs.Harmless.{Turning}
use Rattle.calls.proofs.HeightLaws.{height-spent, height-inside, height-outside}
use Rattle.grafts.specs.Given.{Regrafts}
use Rattle.wilson.specs.Given.{ranges_of, branch_height, Ranged}

-- ---- a height drawn

module _ (pairs parents : List ℕ) (heights : List Float) (root i j : ℕ) (s supply : Supply) where
  abbrev t : Tree
  t = tree_of pairs parents heights root

  abbrev n : ℕ
  n = nodes_of pairs

  pub height-none : None ≡ drawn (run uniform supply) → after (record { turned = Turns.Spent; supply = s }) pairs parents heights ≡ turn_of t s (run (wilson_height t i j) supply)
  unfolding turn_of
  height-none e = rw (height-spent (parent t i) _ _ _ supply e)

  -- u is the uniform, and next the supply after it
  module _ (u : Float) (next : Supply) (eu : Some (u, next) ≡ drawn (run uniform supply)) where
    -- the height is read of the dates
    shown : branch_height (dates_in parents heights 0) i j u ≡ height_of (max_of (height t i) (height t j)) (height t (parent t j)) u
    unfolding height parent
    shown = refl

    pub height-out : None ≡ branch_height (dates_in parents heights 0) i j u → (p : ℕ) → p ≡ get_or parents i 0
        → after (record { turned = Turns.Outside p; supply = next }) pairs parents heights ≡ turn_of t s (run (wilson_height t i j) supply)
    unfolding turn_of parent
    height-out w p ep = rw (height-outside (parent t i) _ _ _ supply u next eu (w ∙ shown), ep)

    pub height-moved : (new old : Float) → Ranged pairs parents heights root i j new old → (z : Float) → Some z ≡ branch_height (dates_in parents heights 0) i j u
        → (ps qs : List ℕ) (hs : List Float) (r : ℕ) → (Regrafts pairs parents heights root i j → tree_of ps qs hs r ≡ regraft n t i j z)
        → after (record { turned = Turns.Moved r (Lengths new old); supply = next }) ps qs hs ≡ turn_of t s (run (wilson_height t i j) supply)
    unfolding turn_of
    height-moved new old g z w ps qs hs r e = rw (height-inside (parent t i) _ _ _ supply u next eu z (w ∙ shown), ← e g.regrafts, g.new_is, g.old_is)

  -- ---- the whole

  -- what is measured, where the move is declined or not
  abbrev measured : Bool → Option (Float × Float)
  measured declines = cond declines None (Some (new_range t i j, old_range t i))

  pub onto-declined : None ≡ ranges_of t i j → after (record { turned = Turns.Declined; supply = supply }) pairs parents heights ≡ turn_of t s (run (onto t i j) supply)
  unfolding turn_of onto run
  onto-declined = go (wilson_declines t i j)
    where
      go : (b : Bool) → None ≡ measured b
          → after (record { turned = Turns.Declined; supply = supply }) pairs parents heights ≡ turn_of t s (run (cond b (return (makes declined)) (wilson_height t i j)) supply)
      go true e = refl
      go false e = cc

  pub onto-height : (new old : Float) → Some (new, old) ≡ ranges_of t i j → Regrafts pairs parents heights root i j → (a : After)
      → Turning (Ranged pairs parents heights root i j new old) (turn_of t s (run (wilson_height t i j) supply)) t supply a
      → a ≡ turn_of t s (run (onto t i j) supply)
  unfolding onto
  onto-height new old e g a q = go (wilson_declines t i j) e
    where
      go : (b : Bool) → Some (new, old) ≡ measured b
          → a ≡ turn_of t s (run (cond b (return (makes declined)) (wilson_height t i j)) supply)
      go true e = cc
      go false e =
          let p : ◌≡◌ {A = Float × Float} (new, old) (new_range t i j, old_range t i) = cc in
          q.decided (record { regrafts = g; new_is = ap (λ (x : Float × Float). x.0) p; old_is = ap (λ (x : Float × Float). x.1) p })

pub ruleset height_laws = (height-none, height-out, height-moved)

pub ruleset onto_laws = (onto-declined, onto-height)
