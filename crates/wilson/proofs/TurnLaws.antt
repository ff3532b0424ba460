-- The ways through WilsonBalding's turn: the draws are spent, or both nodes are drawn, which are then nodes of the tree. Assumes nothing.
use mathlib.Core.Path.{◌≡◌, refl, sym, ap, ◌∙◌}
use mathlib.Core.List.{List}
use Prim.Native.Nat.{ℕ, ◌<◌}
use lib.Ieee.{Float}
use Rattle.random.specs.declared.Supply.{Supply}
use Rattle.std.specs.Prelude.{Some, None}
use Rattle.random.specs.Draw.{below, got, pick, run, drawn}
use Rattle.random.proofs.DrawLaws.{draw-got, draw-spent, until-yields, below-yields}
use Rattle.random.specs.SupplyLaws.{drawn-got, drawn-spent}
use Rattle.tree.specs.Tree.{Tree, nodes_of, parent, height}
use Rattle.tree.specs.Valid.{Valid}
use Rattle.tree.specs.Given.{tree_of, dates_in}
use Rattle.calls.specs.declared.Turned.TheVariants as Turns
use Rattle.calls.specs.Draws.{non_root}
use Rattle.moves.specs.Programs.{wilson_balding, hosting, host, onto}
use Rattle.calls.specs.Given.{After, after, turn_of}
use Rattle.calls.specs.Harmless.{Turning}
use Rattle.calls.specs.YieldLaws.{non-root-yields}
use Rattle.grafts.specs.Given.{Regrafts}

-- i and j are the nodes drawn, u and w the supplies after them
module _ (pairs parents : List ℕ) (heights : List Float) (root : ℕ) (s : Supply) where
  abbrev t : Tree
  t = tree_of pairs parents heights root

  pub turn-spent : None ≡ drawn (pick (non_root (nodes_of pairs) root) s) → after (record { turned = Turns.Spent; supply = s }) pairs parents heights ≡ turn_of t s (run (wilson_balding t) s)
  unfolding turn_of wilson_balding
  turn-spent e = rw (draw-spent (non_root (nodes_of pairs) root) _ s (drawn-spent _ e))

  module _ (i : ℕ) (u : Supply) (ei : Some (i, u) ≡ drawn (pick (non_root (nodes_of pairs) root) s)) where
    -- the test reads no pairs
    bare-host : host (nodes_of pairs) (dates_in parents heights root) i ≡ host (nodes_of pairs) t i
    unfolding host hosting parent height
    bare-host = refl

    pub turn-spent-later : None ≡ drawn (pick (host (nodes_of pairs) (dates_in parents heights root) i) u)
        → after (record { turned = Turns.Spent; supply = s }) pairs parents heights ≡ turn_of t s (run (wilson_balding t) s)
    unfolding turn_of wilson_balding host hosting
    turn-spent-later e =
        rw (
          draw-got (non_root (nodes_of pairs) root) _ s _ _ (drawn-got _ i u ei),
          draw-spent (host (nodes_of pairs) t i) _ u (rw (← bare-host) (drawn-spent _ e)),
        )

    module _ (j : ℕ) (w : Supply) (ej : Some (j, w) ≡ drawn (pick (host (nodes_of pairs) (dates_in parents heights root) i) u)) where
      found : pick (host (nodes_of pairs) t i) u ≡ got j w
      found = rw (← bare-host) (drawn-got _ j w ej)

      -- both are nodes
      regrafts : Valid (nodes_of pairs) (tree_of pairs parents heights root) → Regrafts pairs parents heights root i j
      unfolding host
      regrafts v =
          let a = non-root-yields (nodes_of pairs) root s i u (drawn-got _ i u ei) in
          let b = until-yields (λ m. m < nodes_of pairs) (hosting t i) (below (nodes_of pairs)) (below-yields (nodes_of pairs)) u j w found in
          record { valid = v; node = a.node; under = a.under; to = b.1 }

      pub turn-onto : Valid (nodes_of pairs) (tree_of pairs parents heights root) → (r : After)
          → Turning (Regrafts pairs parents heights root i j) (turn_of t s (run (onto t i j) w)) t w r
          → r ≡ turn_of t s (run (wilson_balding t) s)
      unfolding wilson_balding host hosting onto
      turn-onto v r e =
          e.decided (regrafts v) ∙ ap (turn_of t s) (sym (draw-got (non_root (nodes_of pairs) root) _ s _ _ (drawn-got _ i u ei) ∙ draw-got (host (nodes_of pairs) t i) _ u _ _ found))

pub ruleset turn_laws = (turn-spent, turn-spent-later, turn-onto)
