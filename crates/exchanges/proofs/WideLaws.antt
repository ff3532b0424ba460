-- The ways through WideExchange: a node other than the root and i (`apart_laws`), and the turn (`wide_laws`). Assumes nothing.
use mathlib.Core.Path.{◌≡◌, refl, sym, ap, ◌∙◌}
use mathlib.Core.Bool.{Bool, true, false, not, cond}
use mathlib.Core.List.{List}
use Prim.Native.Nat.{ℕ, ◌<◌}
use lib.Dec.{eqb}
use lib.Ieee.{Float}
use borrow.Author.Tests.{eq-eqb, ne_eqb}
use Rattle.answer.specs.declared.Ratio.TheVariants.{Even}
use Rattle.random.specs.declared.Supply.{Supply}
use Rattle.random.specs.Draw.{got, pick, run, drawn}
use Rattle.random.proofs.DrawLaws.{draw-got, draw-spent, until-yields}
use Rattle.random.specs.SupplyLaws.{drawn-got, drawn-spent}
use Rattle.tree.specs.Tree.{Tree, nodes_of, parent, height}
use Rattle.tree.specs.Valid.{Valid}
use Rattle.tree.specs.Given.{tree_of, dates_in}
use Rattle.edits.specs.Slots.{swap, bare}
use Rattle.edits.specs.Needs.{Exchanges}
use Rattle.edits.specs.NeedsLaws.{valid-exchanges, swap-whole}
use Rattle.rules.specs.Rules.{wide_declines, widened}
use Rattle.calls.specs.declared.Turn.{Turn}
use Rattle.calls.specs.declared.Turned.TheVariants as Turns
use Rattle.calls.specs.Call.{makes, declined, moved}
use Rattle.calls.specs.Draws.{non_root}
use Rattle.moves.specs.Programs.{wide_exchange, apart}
use Rattle.calls.specs.Given.{After, after, turn_of}
use Rattle.calls.specs.RedrawLaws.{redraw-fewer, redraw-spent, redraw-taken, redraw-passed}
use Rattle.calls.specs.YieldLaws.{NonRoot, non-root-yields}
use Rattle.exchanges.specs.Given.{spends}
use Rattle.std.specs.Prelude.{Some, None}

-- ---- a node other than the root and i

abbrev others : ℕ → ℕ → Bool
others i j = not (eqb j i)

module _ (n root i : ℕ) (s₀ s : Supply) (inv : pick (apart n root i) s₀ ≡ pick (apart n root i) s) where
  pub apart-spent : None ≡ drawn (pick (non_root n root) s) → None ≡ drawn (pick (apart n root i) s₀)
  unfolding apart
  apart-spent e = redraw-spent (others i) (non_root n root) s s₀ inv e

  module _ (k : ℕ) (u : Supply) (e : Some (k, u) ≡ drawn (pick (non_root n root) s)) where
    pub apart-taken : (k ≡ i → ⊥) → Some (k, u) ≡ drawn (pick (apart n root i) s₀)
    unfolding apart
    apart-taken d = redraw-taken (others i) (non_root n root) s k u e s₀ inv (rw (ne_eqb k i d))

    pub apart-passed : k ≡ i → pick (apart n root i) s₀ ≡ pick (apart n root i) u
    unfolding apart
    apart-passed d = redraw-passed (others i) (non_root n root) s k u e s₀ inv (rw (eq-eqb k i d))

pub apart-fewer : (n root : ℕ) (s : Supply) (k : ℕ) (u : Supply) → Some (k, u) ≡ drawn (pick (non_root n root) s) → u.left < s.left
apart-fewer n root s k u e = redraw-fewer (others root) (non_root n root) s k u e

pub ruleset apart_laws = (apart-spent, apart-taken, apart-passed, apart-fewer)

-- ---- what was drawn are nodes

module _ (n root : ℕ) (s : Supply) (k : ℕ) (u : Supply) where
  first_node : Some (k, u) ≡ drawn (pick (non_root n root) s) → k < n
  first_node e = (non-root-yields n root s k u (drawn-got _ k u e)).node

  second_node : (i : ℕ) → Some (k, u) ≡ drawn (pick (apart n root i) s) → k < n
  unfolding apart
  second_node i e = (until-yields (NonRoot n root) (others i) (non_root n root) (non-root-yields n root) s k u (drawn-got _ k u e)).1.node

-- ---- the turn

abbrev wide : List ℕ → List ℕ → List Float → ℕ → Supply → After
wide pairs parents heights root s = let t = tree_of pairs parents heights root in turn_of t s (run (wide_exchange t) s)

module _ (pairs parents : List ℕ) (heights : List Float) (root : ℕ) (s : Supply) where
  abbrev t : Tree
  t = tree_of pairs parents heights root

  pub wide_spent : None ≡ drawn (pick (non_root (nodes_of pairs) root) s) → (r : Turn) → r ≡ spends s
      → after r pairs parents heights ≡ wide pairs parents heights root s
  unfolding turn_of wide_exchange
  wide_spent e r er = rw er (sym (ap (turn_of t s) (draw-spent (non_root (nodes_of pairs) root) _ s (drawn-spent _ e))))

  -- i and j are the nodes drawn, u and w the supplies after them
  module _ (i : ℕ) (u : Supply) (ei : Some (i, u) ≡ drawn (pick (non_root (nodes_of pairs) root) s)) where
    pub wide-spent-later : None ≡ drawn (pick (apart (nodes_of pairs) root i) u) → (r : Turn) → r ≡ spends s
        → after r pairs parents heights ≡ wide pairs parents heights root s
    unfolding turn_of wide_exchange apart
    wide-spent-later e r er =
        rw er (sym (ap (turn_of t s) (draw-got (non_root (nodes_of pairs) root) _ s _ _ (drawn-got _ i u ei) ∙ draw-spent (apart (nodes_of pairs) root i) _ u (drawn-spent _ e))))

    module _ (j : ℕ) (w : Supply) (ej : Some (j, w) ≡ drawn (pick (apart (nodes_of pairs) root i) u)) where
      ends : run (wide_exchange t) s ≡ got (makes (cond (wide_declines t i j) declined (moved (widened (nodes_of pairs) t i j) Even))) w
      unfolding wide_exchange apart run
      ends = draw-got (non_root (nodes_of pairs) root) _ s _ _ (drawn-got _ i u ei) ∙ draw-got (apart (nodes_of pairs) root i) _ u _ _ (drawn-got _ j w ej)

      -- the test reads no pairs
      dates : wide_declines (dates_in parents heights 0) i j ≡ wide_declines t i j
      unfolding wide_declines parent height
      dates = refl

      module _ (d : Bool) (ed : d ≡ wide_declines (dates_in parents heights 0) i j) where
        pub wide_declined : d ≡ true → after (record { turned = Turns.Declined; supply = w }) pairs parents heights ≡ wide pairs parents heights root s
        unfolding turn_of
        wide_declined y = rw (ends, ← dates, ← ed, y)

        pub wide-moved : d ≡ false → Valid (nodes_of pairs) (tree_of pairs parents heights root) → (p q : List ℕ) (r : ℕ)
            → (Exchanges pairs parents root i j → bare p q r ≡ swap (nodes_of pairs) (bare pairs parents root) i j)
            → after (record { turned = Turns.Moved r Even; supply = w }) p q heights ≡ wide pairs parents heights root s
        unfolding turn_of
        wide-moved y v p q r f =
            let I = first_node (nodes_of pairs) root s i u ei in
            let J = second_node (nodes_of pairs) root u j w i ej in
            rw (ends, ← dates, ← ed, y, ← swap-whole (nodes_of pairs) t i j (f (valid-exchanges v i j I J)))

pub ruleset wide_laws = (wide_spent, wide-spent-later, wide_declined, wide-moved)
