-- The ways through NodeHeight: an internal node other than the root (`non_root_internal_laws`), the taller child's height (`floor_laws`), a height for
-- a node (`place_laws`), and the turn (`node_height_laws`). Assumes nothing.
use mathlib.Core.Path.{◌≡◌, refl, sym, ◌∙◌}
use mathlib.Core.Bool.{Bool, false, true≢false, not}
use mathlib.Core.List.{List}
use Prim.Native.Nat.{ℕ, ◌+◌, ◌-◌, ◌/◌, ◌^◌, ◌≤◌, ◌<◌}
use native.Mathlib.Omega.{arith}
use lib.Dec.{eqb}
use lib.ListN.{length, get_or, set}
use lib.Ieee.{Float, nan}
use mir.Val.{Fits}
use mir.Syntax.{w64}
use borrow.Author.Tests.{eq-eqb, ne_eqb}
use Rattle.answer.specs.declared.Ratio.TheVariants.{Even}
use Rattle.random.specs.declared.Supply.{Supply}
use Rattle.random.specs.Draw.{below_other, uniform, got, pick, run, drawn}
use Rattle.random.proofs.DrawLaws.{draw-got, draw-spent, until-yields}
use Rattle.random.specs.SupplyLaws.{drawn-got, drawn-spent}
use Rattle.real.specs.Real.{max_of}
use Rattle.tree.specs.Tree.{Tree, nodes_of, tips_of, parent, height}
use Rattle.tree.specs.Valid.{Valid}
use Rattle.tree.specs.PlaceLaws.{next_place}
use Rattle.tree.specs.ScanLaws.{neqb→ne}
use Rattle.tree.specs.Given.{tree_of, kin_in}
use Rattle.edits.specs.Slots.{set_height}
use Rattle.rules.specs.Rules as Rules
use Rattle.rules.specs.Rules.{internals, one_internal, floor}
use Rattle.calls.specs.declared.Turn.{Turn}
use Rattle.calls.specs.declared.Turned.TheVariants as Turns
use Rattle.calls.specs.Call.{Outcome, moved}
use Rattle.calls.specs.Draws.{internal}
use Rattle.moves.specs.Programs.{node_height, non_root_internal, placing}
use Rattle.calls.specs.Given.{After, after, after_on, turn_of, height_of}
use Rattle.calls.specs.YieldLaws.{Internal, internal-yields}
use Rattle.calls.proofs.HeightLaws.{height-spent, height-inside, height-outside}
use Rattle.heights.specs.Given.{shaped, has_kin, stays}
use Rattle.heights.proofs.RangeLaws.{valid-kin}
use Rattle.std.specs.Prelude.{Option, Some, None}

-- ---- an internal node other than the root

module _ (n : ℕ) where
  half : internals n ≡ n / 2
  half = omega arith

  rest : tips_of n ≡ n - n / 2
  rest = omega arith

  pub non-root-internal-fits : Fits w64 n → n - n / 2 + n / 2 < 2 ^ 64
  non-root-internal-fits h = let z = h.fits in omega arith

  pub non-root-internal-is : (root : ℕ) (s : Supply) (r : Option (ℕ × Supply)) → r ≡ drawn (pick (below_other (n / 2) (n - n / 2) root) s)
      → r ≡ drawn (pick (non_root_internal n root) s)
  unfolding non_root_internal internal below_other
  non-root-internal-is root s r e = rw (half, rest) e

pub ruleset non_root_internal_laws = (non-root-internal-fits, non-root-internal-is)

-- ---- the taller child's height

module _ (pairs : List ℕ) (heights : List Float) (k : ℕ) where
  pub floor-is : (r : Float) → r ≡ max_of (get_or heights (get_or pairs (k + k) 0) nan) (get_or heights (get_or pairs (k + k + 1) 0) nan) → r ≡ floor (kin_in pairs heights) k
  unfolding height
  floor-is r e = rw (e, next_place pairs k)

pub ruleset floor_laws = (floor-is)

-- ---- a height for node k

module _ (pairs parents : List ℕ) (heights : List Float) (root k : ℕ) (between s : Supply) where
  abbrev here : Tree
  here = tree_of pairs parents heights root

  abbrev make : Float → Outcome
  make x = moved (Rules.height_moved here k x) Even

  pub place-spent : None ≡ drawn (run uniform between) → after_on Turns.Spent s here ≡ turn_of here s (run (placing here k) between)
  unfolding placing turn_of
  place-spent e = rw (height-spent k (floor here k) (height here (parent here k)) make between e)

  -- u is the uniform, last the supply after it, and the height is from lower to the parent's
  module _ (u : Float) (last : Supply) (e : Some (u, last) ≡ drawn (run uniform between)) (lower : Float) (el : lower ≡ floor (kin_in pairs heights) k) where
    -- it is the one of the definition
    shown : height_of lower (get_or heights (get_or parents k 0) nan) u ≡ height_of (floor here k) (height here (parent here k)) u
    unfolding height parent
    shown = rw el

    pub place-outside : None ≡ height_of lower (get_or heights (get_or parents k 0) nan) u
        → after_on (Turns.Outside k) last here ≡ turn_of here s (run (placing here k) between)
    unfolding placing turn_of
    place-outside q = rw (height-outside k (floor here k) (height here (parent here k)) make between u last e (q ∙ shown))

    pub place-moved : (x : Float) → Some x ≡ height_of lower (get_or heights (get_or parents k 0) nan) u → (hs : List Float) → hs ≡ set heights k x
        → after_on (Turns.Moved root Even) last (tree_of pairs parents hs root) ≡ turn_of here s (run (placing here k) between)
    unfolding placing turn_of set_height
    place-moved x q hs w = rw (height-inside k (floor here k) (height here (parent here k)) make between u last e x (q ∙ shown), w)

pub ruleset place_laws = (place-spent, place-outside, place-moved)

-- ---- the turn

module _ (pairs parents : List ℕ) (heights : List Float) (root : ℕ) (s : Supply) where
  abbrev t : Tree
  t = tree_of pairs parents heights root

  abbrev n : ℕ
  n = nodes_of pairs

  module _ (v : Valid (nodes_of pairs) (tree_of pairs parents heights root)) where
    long : length heights ≡ n
    long = v.sized.heights

    -- b is whether there are a pair and a parent for each height, as a valid tree has them
    pub turn-misshapen : (b : Bool) → b ≡ shaped pairs parents (length heights) → b ≡ false → (a : After) → a ≡ turn_of t s (run (node_height t) s)
    turn-misshapen b e f a = absurd (true≢false (sym (e ∙ rw (long, v.sized.parents, eq-eqb n n refl)) ∙ f))

    pub turn_alone : length heights / 2 < 2 → (r : Turn) → r ≡ stays s → after r pairs parents heights ≡ turn_of t s (run (node_height t) s)
    unfolding node_height turn_of run
    turn_alone h r er = let few = v.sized.some in rw (er, eq-eqb (internals n) 1 (omega (arith, h, few, long)))

    module _ (h : 2 ≤ length heights / 2) where
      several : one_internal n ≡ false
      several = ne_eqb (internals n) 1 (λ q. omega (arith, h, long, q))

      pub turn-spent : None ≡ drawn (pick (non_root_internal (length heights) root) s) → after_on Turns.Spent s t ≡ turn_of t s (run (node_height t) s)
      unfolding node_height turn_of non_root_internal
      turn-spent e = rw (several, draw-spent _ _ s (drawn-spent _ (rw long at e)))

      -- k is the node that was drawn, and u the supply after it
      module _ (k : ℕ) (u : Supply) (e : Some (k, u) ≡ drawn (pick (non_root_internal (length heights) root) s)) where
        chosen : pick (non_root_internal n root) s ≡ got k u
        chosen = drawn-got _ k u (rw long at e)

        pub turn-placed : (a : After) → a ≡ turn_of t s (run (placing t k) u) → a ≡ turn_of t s (run (node_height t) s)
        unfolding node_height non_root_internal placing
        turn-placed a q = rw (q, several, draw-got _ _ s k u chosen)

        -- b is whether the node and its kin are in range, as they are in a valid tree
        pub turn-kinless : (b : Bool) → b ≡ has_kin pairs parents heights k → b ≡ false → (a : After) → a ≡ turn_of t s (run (node_height t) s)
        unfolding non_root_internal
        turn-kinless b eb g a =
            let y = until-yields (Internal n) (λ j. not (eqb j root)) (internal n) (internal-yields n v.sized.odd) s k u chosen in
            absurd (true≢false (sym (eb ∙ valid-kin pairs parents heights root v k y.1.node y.1.inner (neqb→ne k root (rw y.0 tt))) ∙ g))

pub ruleset node_height_laws = (turn-misshapen, turn_alone, turn-spent, turn-placed, turn-kinless)
