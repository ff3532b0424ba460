-- The ways through RootScale's turn. Assumes nothing.
use mathlib.Core.Path.{◌≡◌, sym, ◌∙◌}
use mathlib.Core.Bool.{Bool, true, false, true≢false}
use mathlib.Core.List.{List}
use Prim.Native.Nat.{ℕ}
use lib.ListN.{get_or, set}
use lib.IntN.{negsuc}
use lib.Ieee.{Float, nan, binary64, mul, lt}
use lib.Ieee.Scale.{finite}
use Rattle.answer.specs.declared.Ratio.TheVariants.{Power}
use Rattle.random.specs.declared.Supply.{Supply}
use Rattle.random.specs.Draw.{uniform, run, drawn}
use Rattle.random.proofs.DrawLaws.{bind-got, bind-spent}
use Rattle.tree.specs.Tree.{Tree, nodes_of, height}
use Rattle.tree.specs.Valid.{Valid}
use Rattle.tree.specs.Given.{tree_of, kin_in}
use Rattle.edits.specs.Slots.{set_height}
use Rattle.rules.specs.Rules.{floor, root_scale_declines}
use Rattle.calls.specs.declared.Turn.{Turn}
use Rattle.calls.specs.declared.Turned.TheVariants as Turns
use Rattle.calls.specs.Draws.{scaler}
use Rattle.moves.specs.Programs.{root_scale}
use Rattle.calls.specs.Given.{After, after, after_on, turn_of}
use Rattle.heights.specs.Given.{has_children, stays}
use Rattle.heights.proofs.RangeLaws.{valid-root}
use Rattle.random.specs.SupplyLaws.{drawn-got, drawn-spent}
use Rattle.std.specs.Prelude.{Some, None}

module _ (pairs parents : List ℕ) (heights : List Float) (root : ℕ) where
  abbrev t : Tree
  t = tree_of pairs parents heights root

  module _ (tuning : Float) (s : Supply) where
    pub root-spent : None ≡ drawn (run uniform s) → after_on Turns.Spent s t ≡ turn_of t s (run (root_scale tuning t) s)
    unfolding root_scale turn_of
    root-spent e = rw (bind-spent uniform _ s (drawn-spent _ e))

    -- c is whether the root and its children are in range, as they are in a valid tree
    pub root-childless : Valid (nodes_of pairs) (tree_of pairs parents heights root) → (c : Bool) → c ≡ has_children pairs heights root → c ≡ false → (a : After)
        → a ≡ turn_of t s (run (root_scale tuning t) s)
    root-childless v c ec k a = absurd (true≢false (sym (ec ∙ valid-root pairs parents heights root v) ∙ k))

    -- u is the uniform, next the supply after it, f the factor, and b whether its product with the root's height is finite
    module _ (u : Float) (next : Supply) (e : Some (u, next) ≡ drawn (run uniform s)) (f : Float) (ef : f ≡ scaler tuning u) (b : Bool) (eb : b ≡ finite (mul binary64 (get_or heights root nan) f)) where
      pub root-not-finite : b ≡ false → after_on (Turns.NotFinite root) next t ≡ turn_of t s (run (root_scale tuning t) s)
      unfolding root_scale turn_of run height
      root-not-finite k = rw (bind-got uniform _ s u next (drawn-got _ u next e), ← ef, ← eb, k)

      module _ (k : b ≡ true) (l : Float) (el : l ≡ floor (kin_in pairs heights) root) where
        pub root_declined : lt (mul binary64 (get_or heights root nan) f) l ≡ true → (r : Turn) → r ≡ stays next
            → after r pairs parents heights ≡ turn_of t s (run (root_scale tuning t) s)
        unfolding root_scale turn_of run height root_scale_declines
        root_declined d r er = rw (er, bind-got uniform _ s u next (drawn-got _ u next e), ← ef, ← eb, k, ← el, d)

        pub root-moved : lt (mul binary64 (get_or heights root nan) f) l ≡ false
            → after_on (Turns.Moved root (Power f (negsuc 0))) next (tree_of pairs parents (set heights root (mul binary64 (get_or heights root nan) f)) root)
            ≡ turn_of t s (run (root_scale tuning t) s)
        unfolding root_scale turn_of run height root_scale_declines set_height
        root-moved d = rw (bind-got uniform _ s u next (drawn-got _ u next e), ← ef, ← eb, k, ← el, d)

pub ruleset root_scale_laws = (root-spent, root-childless, root-not-finite, root_declined, root-moved)
