-- The ways through NarrowExchange: how a choice is made (`narrow_laws`), what is done under a grandparent (`under_laws`), and the turn
-- (`narrow_turn_laws`). Assumes nothing.
use mathlib.Core.Path.{◌≡◌, refl, sym, ◌∙◌}
use mathlib.Core.Bool.{Bool, true, false, not, ◌||◌, cond, true≢false}
use mathlib.Core.List.{List}
use Prim.Native.Nat.{ℕ, zero, suc, ◌+◌, ◌<◌}
use lib.Ieee.{Float, lt}
use borrow.Author.Tests.{ltb-true}
use Rattle.answer.specs.declared.Ratio.TheVariants.{Counts}
use Rattle.random.specs.declared.Supply.{Supply}
use Rattle.random.specs.Draw.{got, coin, pick, run, drawn}
use Rattle.random.proofs.DrawLaws.{draw-got, draw-spent, bind-got, bind-spent, until-yields}
use Rattle.random.specs.SupplyLaws.{drawn-got, drawn-spent}
use Rattle.tree.specs.Tree.{Tree, nodes_of, inner, first, second, height}
use Rattle.tree.specs.Valid.{Valid, Inner}
use Rattle.tree.specs.Given.{tree_of, kin_in}
use Rattle.edits.specs.Slots.{swap, bare}
use Rattle.edits.specs.Needs.{Exchanges}
use Rattle.edits.specs.NeedsLaws.{valid-exchanges, swap-whole}
use Rattle.rules.specs.Rules.{one_internal, grand, grands, taller, uncle, side_of, narrow_declines, narrowed, narrow_ratio}
use Rattle.calls.specs.declared.Turn.{Turn}
use Rattle.calls.specs.declared.Turned.TheVariants as Turns
use Rattle.calls.specs.Draws.{internal}
use Rattle.moves.specs.Programs.{narrow_exchange, grandparent, narrow_under}
use Rattle.calls.specs.Given.{After, after, turn_of}
use Rattle.calls.specs.YieldLaws.{Internal, internal-yields}
use Rattle.std.specs.Prelude.{Some, None}
use Rattle.exchanges.specs.Given.{pairs_in, spends, taller_in, side_in, uncle_in, narrow_turn, AtInner, Narrows}

-- ---- what is read

-- only the pairs tell how many grandparents there are
grands-pairs : (n : ℕ) (t : Tree) (m : ℕ) → grands n (pairs_in t.pairs) m ≡ grands n t m
unfolding grands grand
grands-pairs n t zero = refl
grands-pairs n t (suc m) = rw (grands-pairs n t m)

-- the pairs and the heights tell what changes places, and what is declined
module _ (t : Tree) (g : ℕ) where
  side-kin : (side : Bool) → side_in t.pairs t.heights g side ≡ side_of t side (taller t g)
  unfolding side_in taller_in height
  side-kin side = refl

  uncle-kin : uncle_in t.pairs t.heights g ≡ uncle t g
  unfolding uncle_in height
  uncle-kin = refl

  declines-kin : (n : ℕ) → narrow_declines n (kin_in t.pairs t.heights) g ≡ narrow_declines n t g
  unfolding narrow_declines height
  declines-kin n = refl

-- ---- they are nodes

module _ {n : ℕ} {t : Tree} where
  taller-node : {g : ℕ} → Inner n t g → taller t g < n
  taller-node {g} i = go (lt (height t (first t g)) (height t (second t g)))
    where
      go : (b : Bool) → cond b (second t g) (first t g) < n
      go true = i.second_node
      go false = i.first_node

  uncle-node : {g : ℕ} → Inner n t g → uncle t g < n
  uncle-node {g} i = go (lt (height t (first t g)) (height t (second t g)))
    where
      go : (b : Bool) → cond b (first t g) (second t g) < n
      go true = i.first_node
      go false = i.second_node

  side-node : {k : ℕ} (side : Bool) → Inner n t k → side_of t side k < n
  side-node true i = i.first_node
  side-node false i = i.second_node

-- a move that is not declined has an internal taller child
taller-inner : (n : ℕ) (t : Tree) (g : ℕ) → narrow_declines n t g ≡ false → n < taller t g + taller t g
unfolding narrow_declines
taller-inner n t g = go (one_internal n) (inner n (taller t g)) refl
  where
    go : (o b : Bool) → inner n (taller t g) ≡ b → o || not b ≡ false → n < taller t g + taller t g
    go o true e h = ltb-true n (taller t g + taller t g) e
    go true false e h = absurd (true≢false h)
    go false false e h = absurd (true≢false h)

-- ---- how the choice is made

module _ (pairs parents : List ℕ) (heights : List Float) (root g : ℕ) (side : Bool) (c : ℕ) (ec : c ≡ side_in pairs heights g side) (u : ℕ) (eu : u ≡ uncle_in pairs heights g) where
  abbrev t : Tree
  t = tree_of pairs parents heights root

  narrow-exchanges : Narrows (nodes_of pairs) (tree_of pairs parents heights root) g → Exchanges pairs parents root c u
  narrow-exchanges w =
      let v = w.under.valid in
      let i = v.inner g w.under.node w.under.inner in
      let j = v.inner (taller t g) (taller-node i) w.parent in
      rw (ec ∙ side-kin t g side, eu ∙ uncle-kin t g) (valid-exchanges v (side_of t side (taller t g)) (uncle t g) (side-node side j) (uncle-node i))

  -- the tree that the exchange made
  whole : (p q : List ℕ) (r : ℕ) → bare p q r ≡ swap (nodes_of pairs) (bare pairs parents root) c u → tree_of p q heights r ≡ narrowed (nodes_of pairs) t g side
  unfolding narrowed
  whole p q r e = swap-whole (nodes_of pairs) t c u e ∙ rw (ec ∙ side-kin t g side, eu ∙ uncle-kin t g)

  pub narrow-moved : (x : ℕ) → x ≡ grands (nodes_of pairs) (pairs_in pairs) (nodes_of pairs)
      → Narrows (nodes_of pairs) (tree_of pairs parents heights root) g
      → (p q : List ℕ) (r : ℕ) → (Exchanges pairs parents root c u → bare p q r ≡ swap (nodes_of pairs) (bare pairs parents root) c u)
      → (y : ℕ) → y ≡ grands (nodes_of pairs) (pairs_in p) (nodes_of pairs) → (s : Supply)
      → after (record { turned = Turns.Moved r (Counts x y); supply = s }) p q heights ≡ narrow_turn (nodes_of pairs) (tree_of pairs parents heights root) g side s
  unfolding narrow_turn turn_of narrow_ratio
  narrow-moved x ex w p q r f y ey s =
      rw (← whole p q r (f (narrow-exchanges w)), ex, ey, grands-pairs (nodes_of pairs) t (nodes_of pairs), grands-pairs (nodes_of pairs) (tree_of p q heights r) (nodes_of pairs))

pub ruleset narrow_laws = (narrow-moved)

-- ---- what the turn leaves, and what it leaves from the supply u on, g being drawn

abbrev ends : List ℕ → List ℕ → List Float → ℕ → Supply → After
ends pairs parents heights root s = let t = tree_of pairs parents heights root in turn_of t s (run (narrow_exchange t) s)

abbrev under : List ℕ → List ℕ → List Float → ℕ → ℕ → Supply → Supply → After
under pairs parents heights root g s u = let t = tree_of pairs parents heights root in turn_of t s (run (narrow_under (nodes_of pairs) t g) u)

-- ---- under a grandparent

module _ (pairs parents : List ℕ) (heights : List Float) (root g : ℕ) (b : Bool) (eb : b ≡ narrow_declines (nodes_of pairs) (kin_in pairs heights) g) where
  declines : narrow_declines (nodes_of pairs) (tree_of pairs parents heights root) g ≡ b
  declines = sym (declines-kin (tree_of pairs parents heights root) g (nodes_of pairs)) ∙ sym eb

  pub under-declined : b ≡ true → (s u : Supply)
      → after (record { turned = Turns.Declined; supply = u }) pairs parents heights ≡ under pairs parents heights root g s u
  unfolding narrow_under turn_of run
  under-declined y s u = rw (declines, y)

  module _ (y : b ≡ false) where
    under-narrows : AtInner (nodes_of pairs) (tree_of pairs parents heights root) g → Narrows (nodes_of pairs) (tree_of pairs parents heights root) g
    under-narrows w = record { under = w; parent = taller-inner (nodes_of pairs) (tree_of pairs parents heights root) g (declines ∙ y) }

    module _ (s u : Supply) where
      pub under-spent : None ≡ drawn (run coin u) → (r : Turn) → r ≡ spends s → after r pairs parents heights ≡ under pairs parents heights root g s u
      unfolding narrow_under turn_of
      under-spent e r er = rw (er, declines, y, bind-spent coin _ u (drawn-spent _ e))

      pub under_moved : (c : Bool) (v : Supply) → Some (c, v) ≡ drawn (run coin u) → AtInner (nodes_of pairs) (tree_of pairs parents heights root) g → (r : Turn) (p q : List ℕ)
          → (Narrows (nodes_of pairs) (tree_of pairs parents heights root) g → after r p q heights ≡ narrow_turn (nodes_of pairs) (tree_of pairs parents heights root) g c v)
          → after r p q heights ≡ under pairs parents heights root g s u
      unfolding narrow_under narrow_turn turn_of run
      under_moved c v e w r p q f = rw (declines, y, bind-got coin _ u c v (drawn-got _ c v e)) (f (under-narrows w))

pub ruleset under_laws = (under-declined, under-spent, under_moved)

-- ---- the turn

module _ (pairs parents : List ℕ) (heights : List Float) (root : ℕ) (s : Supply) (o : Bool) (eo : o ≡ one_internal (nodes_of pairs)) where
  pub turn_one : o ≡ true → after (record { turned = Turns.Declined; supply = s }) pairs parents heights ≡ ends pairs parents heights root s
  unfolding turn_of narrow_exchange run
  turn_one m = rw (← eo, m)

  module _ (m : o ≡ false) where
    abbrev n : ℕ
    n = nodes_of pairs

    abbrev given : Tree
    given = tree_of pairs parents heights root

    same : grandparent n (pairs_in pairs) ≡ grandparent n given
    unfolding grandparent grand
    same = refl

    pub turn-spent : None ≡ drawn (pick (grandparent (nodes_of pairs) (pairs_in pairs)) s) → (r : Turn) → r ≡ spends s
        → after r pairs parents heights ≡ ends pairs parents heights root s
    unfolding turn_of narrow_exchange grandparent
    turn-spent e r er = rw (er, ← eo, m, draw-spent (grandparent n given) _ s (rw (← same) (drawn-spent _ e)))

    -- g is the grandparent, and u the supply after it
    module _ (g : ℕ) (u : Supply) (e : Some (g, u) ≡ drawn (pick (grandparent (nodes_of pairs) (pairs_in pairs)) s)) where
      chosen : pick (grandparent n given) s ≡ got g u
      chosen = rw (← same) (drawn-got _ g u e)

      turn-under : Valid (nodes_of pairs) (tree_of pairs parents heights root) → AtInner (nodes_of pairs) (tree_of pairs parents heights root) g
      unfolding grandparent
      turn-under v =
          let i = (until-yields (Internal n) (grand n given) (internal n) (internal-yields n v.sized.odd) s g u chosen).1 in
          record { valid = v; node = i.node; inner = i.inner }

      pub turn-done : Valid (nodes_of pairs) (tree_of pairs parents heights root) → (x : After)
          → (AtInner (nodes_of pairs) (tree_of pairs parents heights root) g → x ≡ under pairs parents heights root g s u)
          → x ≡ ends pairs parents heights root s
      unfolding narrow_exchange grandparent narrow_under
      turn-done v x f = rw (← eo, m, draw-got (grandparent n given) _ s g u chosen) (f (turn-under v))

pub ruleset narrow_turn_laws = (turn_one, turn-spent, turn-done)
