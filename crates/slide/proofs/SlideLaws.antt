-- The ways through the code of a slide's second call: upwards (`up-stays` and on), downwards past the sibling (`under_none` and on) and not past it
-- (`down-above` and on), and the turn (`turn_laws`). i is the node, p its parent and x the height to which that slides; s is the supply. Assumes nothing.
use mathlib.Core.Path.{◌≡◌, refl, sym, ap, ◌∙◌, subst}
use mathlib.Core.Bool.{Bool, true, false}
use mathlib.Core.List.{List, []}
use Prim.Native.Nat.{ℕ, ◌≤◌, ◌<◌}
use native.Mathlib.Omega.{arith}
use lib.Dec.{T}
use lib.ListN.{length, get_or, set}
use lib.Ieee.{Float, binary64, add, lt, nan}
use lib.Ieee.Scale.{finite}
use Rattle.answer.specs.declared.Ratio.TheVariants.{Even, Counts}
use Rattle.random.specs.declared.Supply.{Supply}
use Rattle.random.specs.Draw.{below, pick, run, drawn}
use Rattle.random.proofs.DrawLaws.{below-yields}
use Rattle.random.specs.SupplyLaws.{drawn-got, drawn-spent}
use Rattle.real.specs.OrderLaws.{lt→le}
use Rattle.tree.specs.Tree.{Tree, nodes_of, other_in, parent, height, sibling}
use Rattle.tree.specs.Valid.{Valid}
use Rattle.tree.specs.Given.{tree_of, dates_in}
use Rattle.accepted.specs.WayLaws.{valid-linked, valid-nodes}
use Rattle.edits.specs.Slots.{set_height}
use Rattle.rules.specs.Rules.{regraft, climb, branches}
use Rattle.reversal.specs.FailedLaws.{passed, le-nlt}
use Rattle.reversal.specs.FamilyLaws.{Sibling, sibling-is}
use Rattle.reversal.specs.GraftLaws.{Grafts, graft-sibling}
use Rattle.reversal.specs.BranchLaws.{Climb, Branch, climb-is}
use Rattle.reversal.specs.SlideWayLaws as Ways
use Rattle.reversal.specs.SlideValidLaws.{down-apart, up-grafts, up-valid, up-not-below}
use Rattle.branches.specs.Walk.{counted, picked}
use Rattle.branches.specs.WalkLaws.{counted_is, picked-is, picked-branch, counted-bare, picked-bare, climb-bare}
use Rattle.calls.specs.declared.Turned.TheVariants as Turns
use Rattle.calls.specs.Given.{After, after_on, turn_of}
use Rattle.calls.specs.Harmless.{Turning, overflows}
use Rattle.moves.specs.Programs.{subtree_slide, slide_at}
use Rattle.grafts.specs.Given.{Regrafts}
use Rattle.slide.specs.Slide.{Slidable, Goes, GoesUp, GoesDown, Lowers}
use Rattle.std.specs.Prelude.{Some, None}
use Rattle.slide.proofs.RunLaws.{runs_up, runs-above, runs-level, runs_none, runs-spent, runs-under, kept, lifted, lowered}

-- a valid tree has nodes of 16 bits
few : {n : ℕ} {t : Tree} → Valid n t → n ≤ 65535
few v = omega (arith, v.sized.few)

-- branches that are counted in a valid tree
counted-at : {n : ℕ} {t : Tree} → Valid n t → (x : Float) {k : ℕ} → k < n → T (finite x) → lt (height t k) x ≡ false
    → counted (tree_of t.pairs [] t.heights 0) x k ≡ length (branches n t x k)
counted-at {n} {t} v x {k} K X e =
    subst (λ (m : ℕ). Valid m t → k < m → counted (tree_of t.pairs [] t.heights 0) x k ≡ length (branches m t x k)) (valid-nodes v)
    (λ w M. counted-bare t x k ∙ counted_is w x M X e) v K

module _ (pairs parents : List ℕ) (heights : List Float) (root i : ℕ) where
  abbrev t : Tree
  t = tree_of pairs parents heights root

  abbrev n : ℕ
  n = nodes_of pairs

  -- what the slide to x leaves, and the turn, from the supply s
  abbrev slid : Float → Supply → After
  slid x s = turn_of t s (run (slide_at i x t) s)

  abbrev turned : Float → Supply → After
  turned step s = turn_of t s (run (subtree_slide i step t) s)

  -- ---- what every way has

  module _ (g : Slidable pairs parents heights root i) where
    parent_node : parent t i < n
    parent_node = (g.valid.below i g.node g.under).parent_node

    kin : Sibling n t i (sibling t i)
    kin = sibling-is (valid-linked g.valid) i g.node g.under

  -- p takes the height x, and nothing else changes
  only-height : (p : ℕ) → p ≡ parent t i → (x : Float) (h : List Float) → h ≡ set heights p x → (s : Supply)
      → record { turned = Turns.Moved root Even; supply = s; pairs = pairs; parents = parents; heights = h }
      ≡ after_on (Turns.Moved root Even) s (set_height t (parent t i) x)
  unfolding set_height
  only-height p ep x h e s = rw (e, ep)

  -- ---- upwards

  module _ (x : Float) (g : Goes true pairs parents heights root i x) (p : ℕ) (ep : p ≡ parent t i) where
    abbrev v : Valid n t
    v = g.slides.valid

    -- `to` is where the climb ends
    module _ (to : ℕ) (et : to ≡ climb (nodes_of pairs) (dates_in parents heights root) x p) where
      climbed : Climb t x (parent t i) to
      climbed = rw (et, ep, climb-bare t x n (parent t i)) (climb-is v x (parent_node g.slides))

      goes-up : Ways.Slides n t i x 0 to
      goes-up = Ways.up g.way climbed

      pub up-stays : to ≡ p → (h : List Float) → h ≡ set heights p x → (s : Supply)
          → record { turned = Turns.Moved root Even; supply = s; pairs = pairs; parents = parents; heights = h } ≡ slid x s
      up-stays e h eh s =
          only-height p ep x h eh s ∙ sym (kept v (parent_node g.slides) goes-up s s (e ∙ ep))
          ∙ sym (ap (turn_of t s) (runs_up t i x s g.way))

      module _ (d : to ≡ p → ⊥) where
        apart : to ≡ parent t i → ⊥
        apart e = d (e ∙ sym ep)

        number : T (finite x)
        number = passed (finite x) g.number

        grafts : Grafts n t i to
        grafts = up-grafts v g.slides.node g.slides.under number (passed _ g.way) climbed apart

        regrafts : Regrafts pairs parents heights root i to
        regrafts = let s = g.slides in record { valid = s.valid; node = s.node; under = s.under; to = grafts.node_j }

        -- the branches that are counted in the tree made
        abbrev made : Tree
        made = regraft n t i to x

        made-valid : Valid n made
        made-valid = up-valid v g.slides.node g.slides.under number (passed _ g.way) climbed apart

        listed : counted (tree_of made.pairs [] made.heights 0) (height t (parent t i)) to ≡ length (branches n made (height t (parent t i)) (sibling made i))
        listed = rw (graft-sibling v grafts x)
            (counted-at made-valid (height t (parent t i)) grafts.node_j
            (v.dated.number (parent t i) (parent_node g.slides))
            (up-not-below v g.slides.node g.slides.under number (passed _ g.way) climbed apart))

        pub up-goes : (pairs' parents' : List ℕ) (heights' : List Float) (r : ℕ)
            → (Regrafts pairs parents heights root i to → tree_of pairs' parents' heights' r ≡ regraft n t i to x) → (old : Float) → old ≡ height t p
            → (count : ℕ) → (nodes_of pairs' ≤ 65535 → to < nodes_of pairs' → count ≡ counted (tree_of pairs' [] heights' 0) old to) → (s : Supply)
            → record { turned = Turns.Moved r (Counts 1 count); supply = s; pairs = pairs'; parents = parents'; heights = heights' } ≡ slid x s
        up-goes pairs' parents' heights' r e old eo count ec s =
            (λ j. after_on (Turns.Moved (left j).root (Counts 1 (same j))) s (left j)) ∙ sym (lifted v (parent_node g.slides) goes-up s s apart g.way)
            ∙ sym (ap (turn_of t s) (runs_up t i x s g.way))
          where
            left : tree_of pairs' parents' heights' r ≡ made
            left = e regrafts

            nodes : nodes_of pairs' ≡ n
            nodes = ap (λ (u : Tree). nodes_of u.pairs) left ∙ valid-nodes made-valid

            same : count ≡ length (branches n made (height t (parent t i)) (sibling made i))
            same = ec (rw nodes (few v)) (rw nodes grafts.node_j) ∙ ap (λ (u : Tree). counted (tree_of u.pairs [] u.heights 0) old to) left
                ∙ ap (λ (y : Float). counted (tree_of made.pairs [] made.heights 0) y to) (eo ∙ ap (height t) ep) ∙ listed

  -- ---- downwards past the sibling

  -- k is the sibling, and count how many branches are under it
  module _ (x : Float) (k : ℕ) (g : Lowers pairs parents heights root i k x) (count : ℕ)
      (ec : nodes_of pairs ≤ 65535 → k < nodes_of pairs → count ≡ counted (tree_of pairs [] heights 0) x k) (s : Supply) where
    abbrev on : Slidable pairs parents heights root i
    on = g.goes.slides

    abbrev list : List ℕ
    list = branches n t x (sibling t i)

    finite-x : T (finite x)
    finite-x = passed (finite x) g.goes.number

    sibling-node : k < n
    sibling-node = rw g.beside (kin on).node

    not-below : lt (height t k) x ≡ false
    not-below = rw g.beside (le-nlt (height t (sibling t i)) x (on.valid.dated.number (sibling t i) (kin on).node) finite-x
        (lt→le x (height t (sibling t i)) (passed _ g.past)))

    is-count : count ≡ length list
    is-count = ec (few on.valid) sibling-node ∙ counted-bare t x k ∙ counted_is on.valid x sibling-node finite-x not-below
        ∙ ap (λ (m : ℕ). length (branches n t x m)) g.beside

    pub under_none : count ≡ 0 → record { turned = Turns.Declined; supply = s; pairs = pairs; parents = parents; heights = heights } ≡ slid x s
    unfolding turn_of
    under_none z = rw (runs_none t i x s g.goes.way g.over g.past (sym is-count ∙ z))

    module _ (some : count ≡ 0 → ⊥) where
      some-listed : length list ≡ 0 → ⊥
      some-listed e = some (is-count ∙ e)

      pub under-spent : None ≡ drawn (pick (below count) s)
          → record { turned = Turns.Spent; supply = s; pairs = pairs; parents = parents; heights = heights } ≡ slid x s
      unfolding turn_of
      under-spent e = rw (runs-spent t i x s g.goes.way g.over g.past some-listed (drawn-spent _ (rw (← is-count) e)))

      -- m is what was drawn, u the supply after it, and j the branch that was picked
      module _ (m : ℕ) (u : Supply) (em : Some (m, u) ≡ drawn (pick (below count) s)) (j : ℕ)
          (ej : nodes_of pairs ≤ 65535 → k < nodes_of pairs → j ≡ picked (tree_of pairs [] heights 0) x k m) where
        index : m < length (branches n t x k)
        index = rw (g.beside, ← is-count) (below-yields count s m u (drawn-got _ m u em))

        is-picked : j ≡ picked t x k m
        is-picked = ej (few on.valid) sibling-node ∙ picked-bare t x k m

        branch : Branch n t x (sibling t i) j
        branch = rw (← g.beside, is-picked) (picked-branch on.valid x sibling-node finite-x not-below m index)

        onto-branch : Regrafts pairs parents heights root i j
        onto-branch = record { valid = on.valid; node = on.node; under = on.under; to = branch.node }

        goes_down : Ways.Slides n t i x m j
        goes_down = Ways.down {j = j} g.goes.way g.over g.past (rw g.beside at index)
            (rw (← g.beside) (sym (is-picked ∙ picked-is on.valid x sibling-node finite-x not-below m index)))

        pub under_goes : (pairs' parents' : List ℕ) (heights' : List Float) (r : ℕ)
            → (Regrafts pairs parents heights root i j → tree_of pairs' parents' heights' r ≡ regraft n t i j x)
            → record { turned = Turns.Moved r (Counts count 1); supply = u; pairs = pairs'; parents = parents'; heights = heights' } ≡ slid x s
        under_goes pairs' parents' heights' r e =
            (λ z. after_on (Turns.Moved (e onto-branch z).root (Counts (is-count z) 1)) u (e onto-branch z))
            ∙ sym (lowered on.valid (parent_node on) goes_down s u (down-apart on.valid on.node on.under branch) g.goes.way)
            ∙ sym (ap (turn_of t s) (runs-under t i x s g.goes.way g.over g.past some-listed m u (drawn-got _ m u (rw (← is-count) em))))

  -- ---- downwards

  -- own is the node's height
  module _ (x : Float) (g : Goes false pairs parents heights root i x) (own : Float) (eo : own ≡ get_or heights i nan) where
    is-own : own ≡ height t i
    unfolding height
    is-own = eo

    pub down-above : lt x own ≡ true → (s : Supply) → record { turned = Turns.Declined; supply = s; pairs = pairs; parents = parents; heights = heights } ≡ slid x s
    unfolding turn_of
    down-above a s = rw (runs-above t i x s g.way (rw is-own at a))

    module _ (a : lt x own ≡ false) (p : ℕ) (ep : p ≡ parent t i) where
      not-above : lt x (height t i) ≡ false
      not-above = rw is-own at a

      -- k is the sibling, and other its height
      module _ (k : ℕ) (ek : k ≡ other_in pairs p i) (other : Float) (et : other ≡ get_or heights k nan) where
        is-sibling : k ≡ sibling t i
        unfolding sibling
        is-sibling = rw (ek, ep)

        is-other : other ≡ height t (sibling t i)
        unfolding height
        is-other = rw (et, is-sibling)

        -- a is what is left of the slide past the sibling
        pub down-past : lt x other ≡ true → (s : Supply) (a : After) → Turning (Lowers pairs parents heights root i k x) (slid x s) t s a → a ≡ slid x s
        down-past b s a e = e.decided (record { goes = g; over = not-above; beside = is-sibling; past = rw is-other at b })

        pub down-stays : lt x other ≡ false → (h : List Float) → h ≡ set heights p x → (s : Supply)
            → record { turned = Turns.Moved root Even; supply = s; pairs = pairs; parents = parents; heights = h } ≡ slid x s
        down-stays b h eh s =
            let c : lt x (height t (sibling t i)) ≡ false = rw is-other at b in
            let w : Ways.Slides n t i x 0 (parent t i) = Ways.level g.way not-above c in
            only-height p ep x h eh s ∙ sym (kept g.slides.valid (parent_node g.slides) w s s refl)
            ∙ sym (ap (turn_of t s) (runs-level t i x s g.way not-above c))

  -- ---- the turn

  -- old is p's height, and b whether the new one is finite
  module _ (step : Float) (p : ℕ) (ep : p ≡ get_or parents i 0) (old : Float) (eo : old ≡ get_or heights p nan) (b : Bool) (eb : b ≡ finite (add binary64 old step)) where
    is-parent : p ≡ parent t i
    unfolding parent
    is-parent = ep

    is-height : old ≡ height t p
    unfolding height
    is-height = eo

    before : old ≡ height t (parent t i)
    before = is-height ∙ ap (height t) is-parent

    pub turn-not-finite : b ≡ false → (s : Supply) → Turning (Slidable pairs parents heights root i) (turned step s) t s (after_on (Turns.NotFinite p) s t)
    unfolding subtree_slide turn_of run
    turn-not-finite h s = record { decided = λ _. rw (← before, ← eb, h, ← is-parent); mild = overflows p s }

    -- past the test it is the slide to the new height
    module _ (h : b ≡ true) where
      is-slide : (s : Supply) → run (subtree_slide i step t) s ≡ run (slide_at i (add binary64 old step) t) s
      unfolding subtree_slide slide_at
      is-slide s = rw (← before, ← eb, h)

      goes : Slidable pairs parents heights root i → (up : Bool) → lt old (add binary64 old step) ≡ up → Goes up pairs parents heights root i (add binary64 old step)
      goes g up w = record { slides = g; number = sym eb ∙ h; way = rw (← before) w }

      -- a is what it left
      pub turn_up : lt old (add binary64 old step) ≡ true → (s : Supply) (a : After)
          → Turning (GoesUp pairs parents heights root i p old (add binary64 old step)) (slid (add binary64 old step) s) t s a
          → Turning (Slidable pairs parents heights root i) (turned step s) t s a
      turn_up w s a e = record { decided = λ g. rw (is-slide s) (e.decided (record { goes = goes g true w; above = is-parent; from = is-height })); mild = e.mild }

      pub turn-down : lt old (add binary64 old step) ≡ false → (s : Supply) (a : After)
          → Turning (GoesDown pairs parents heights root i p (add binary64 old step)) (slid (add binary64 old step) s) t s a
          → Turning (Slidable pairs parents heights root i) (turned step s) t s a
      turn-down w s a e = record { decided = λ g. rw (is-slide s) (e.decided (record { goes = goes g false w; above = is-parent })); mild = e.mild }

pub ruleset turn_laws = (turn-not-finite, turn_up, turn-down)
