-- How the slide to a height runs on each of its ways, from the tests that lead there: what it gives (`runs_up` and on), and what a turn leaves that
-- gives it (`kept`, `lifted`, `lowered`). t is a tree, i the node, x the height and S the sibling. Assumes nothing.
use mathlib.Core.Path.{◌≡◌}
use mathlib.Core.Bool.{true, false}
use Prim.Native.Nat.{ℕ, ◌<◌}
use borrow.Author.Tests.{eq-eqb, ne_eqb}
use lib.ListN.{length}
use lib.Ieee.{Float, lt}
use Rattle.answer.specs.declared.Ratio.{Ratio}
use Rattle.answer.specs.declared.Ratio.TheVariants.{Even, Counts}
use Rattle.random.specs.declared.Supply.{Supply}
use Rattle.random.specs.Draw.{return, below, spent, got, pick, run}
use Rattle.random.proofs.DrawLaws.{draw-got, draw-spent}
use Rattle.tree.specs.Tree.{Tree, nodes_of, parent, height, sibling}
use Rattle.tree.specs.Valid.{Valid}
use Rattle.edits.specs.Slots.{set_height}
use Rattle.rules.specs.Rules.{regraft, rises, branches, slide_declines}
use Rattle.reversal.specs.SlideWayLaws.{Slides, slid-only, ratio-only, slid-onto, ratio-up, ratio-down}
use Rattle.calls.specs.declared.Turned.TheVariants as Turns
use Rattle.calls.specs.Call.{makes, declined}
use Rattle.calls.specs.Given.{After, after_on, turn_of}
use Rattle.moves.specs.Programs.{slides, slide_at}

-- ---- what it gives

module _ (t : Tree) (i : ℕ) (x : Float) (s : Supply) where
  -- upwards
  pub runs_up : rises t i x ≡ true → run (slide_at i x t) s ≡ got (makes (slides (nodes_of t.pairs) t i x 0)) s
  unfolding slide_at slide_declines run
  runs_up r = rw r

  -- not upwards
  module _ (r : rises t i x ≡ false) where
    -- the node is above x
    pub runs-above : lt x (height t i) ≡ true → run (slide_at i x t) s ≡ got (makes declined) s
    unfolding slide_at slide_declines run
    runs-above a = rw (r, a)

    module _ (a : lt x (height t i) ≡ false) where
      -- the sibling is not
      pub runs-level : lt x (height t (sibling t i)) ≡ false → run (slide_at i x t) s ≡ got (makes (slides (nodes_of t.pairs) t i x 0)) s
      unfolding slide_at slide_declines run
      runs-level b = rw (r, a, b)

      -- it is, and there is no branch under it, the draws are spent, or one is picked
      module _ (b : lt x (height t (sibling t i)) ≡ true) where
        pub runs_none : length (branches (nodes_of t.pairs) t x (sibling t i)) ≡ 0 → run (slide_at i x t) s ≡ got (makes declined) s
        unfolding slide_at slide_declines run
        runs_none z = rw (r, a, b, eq-eqb (length (branches (nodes_of t.pairs) t x (sibling t i))) 0 z)

        module _ (z : length (branches (nodes_of t.pairs) t x (sibling t i)) ≡ 0 → ⊥) where
          pub runs-spent : pick (below (length (branches (nodes_of t.pairs) t x (sibling t i)))) s ≡ spent → run (slide_at i x t) s ≡ spent
          unfolding slide_at slide_declines
          runs-spent e = rw (r, a, b, ne_eqb (length (branches (nodes_of t.pairs) t x (sibling t i))) 0 z) (draw-spent _ _ s e)

          pub runs-under : (k : ℕ) (u : Supply) → pick (below (length (branches (nodes_of t.pairs) t x (sibling t i)))) s ≡ got k u
              → run (slide_at i x t) s ≡ got (makes (slides (nodes_of t.pairs) t i x k)) u
          unfolding slide_at slide_declines run
          runs-under k u e = rw (r, a, b, ne_eqb (length (branches (nodes_of t.pairs) t x (sibling t i))) 0 z) (draw-got _ (λ m. return (makes (slides (nodes_of t.pairs) t i x m))) s k u e)

-- ---- what a turn leaves

-- P goes onto the branch over j
module _ {t : Tree} (v : Valid (nodes_of t.pairs) t) {i : ℕ} (P : parent t i < nodes_of t.pairs) {x : Float} {k j : ℕ}
    (w : Slides (nodes_of t.pairs) t i x k j) (s u : Supply) where
  -- which is its own
  pub kept : j ≡ parent t i → turn_of t s (got (makes (slides (nodes_of t.pairs) t i x k)) u) ≡ after_on (Turns.Moved t.root Even) u (set_height t (parent t i) x)
  unfolding turn_of set_height
  kept e = rw (slid-only v P w e, ratio-only v P w e)

  -- or another one
  module _ (d : j ≡ parent t i → ⊥) where
    abbrev onto : Ratio → After
    onto r = after_on (Turns.Moved (regraft (nodes_of t.pairs) t i j x).root r) u (regraft (nodes_of t.pairs) t i j x)

    -- upwards
    pub lifted : rises t i x ≡ true → turn_of t s (got (makes (slides (nodes_of t.pairs) t i x k)) u)
        ≡ onto (Counts 1 (length (branches (nodes_of t.pairs) (regraft (nodes_of t.pairs) t i j x) (height t (parent t i)) (sibling (regraft (nodes_of t.pairs) t i j x) i))))
    unfolding turn_of
    lifted r = rw (ratio-up v P w d r (slid-onto v P w d), slid-onto v P w d)

    -- or downwards
    pub lowered : rises t i x ≡ false → turn_of t s (got (makes (slides (nodes_of t.pairs) t i x k)) u)
        ≡ onto (Counts (length (branches (nodes_of t.pairs) t x (sibling t i))) 1)
    unfolding turn_of
    lowered r = rw (ratio-down v P w d r, slid-onto v P w d)
