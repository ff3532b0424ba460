-- The ways through TreeScale: the lowest node that overflows (`lowest_laws`), the heights that are scaled (`scale_laws`), the ratio
-- (`ratio_laws`), the turn (`tree_scale_laws`), and the answer with the heights after it (`scale_answer_laws`). Assumes nothing.
use mathlib.Core.Path.{◌≡◌, refl, sym, ap, ◌∙◌}
use mathlib.Core.Bool.{Bool, true, false, true≢false, not, ◌&&◌, cond}
use mathlib.Core.List.{List}
use Prim.Native.Nat.{ℕ, zero, suc, ◌+◌, ◌-◌, ◌/◌, ◌≤◌, ◌<◌}
use native.Mathlib.Omega.{arith}
use native.Mathlib.Numerals.{add-one}
use lib.Dec.{T, ltb, leb, leb→le, ltb→lt}
use lib.ListN.{length, get_or, set}
use lib.Seq.{get_or-set_other}
use lib.IntN.{pos, negsuc, ◌-ℤ◌}
use lib.Ieee.{Float, nan, binary64, mul}
use lib.Ieee.Bits.{is_true}
use lib.Ieee.Fits.{and_l, and_r}
use lib.Ieee.Scale.{finite}
use mir.Val.{SFits, to_z, of_z}
use mir.Syntax.{w32}
use mir.Facts.{to_z_pos, to_z-of_z}
use borrow.Author.Tests.{lt-ltb, le-ltb, le-leb}
use Rattle.answer.specs.declared.Refusal.{Refusal}
use Rattle.answer.specs.declared.Ratio.{Ratio}
use Rattle.answer.specs.declared.Ratio.TheVariants.{Power}
use Rattle.random.specs.declared.Random.{Random}
use Rattle.random.specs.declared.Supply.{Supply}
use Rattle.random.specs.Draw.{Draw, uniform, got, run, supply_of, drawn}
use Rattle.random.proofs.DrawLaws.{bind-got, bind-spent}
use Rattle.tree.specs.Tree.{Tree, nodes_of, inner, height}
use Rattle.tree.specs.Valid.{Valid}
use Rattle.tree.specs.Given.{tree_of}
use Rattle.tree.specs.PlaceLaws.{wide16}
use Rattle.edits.specs.Slots.{set_height}
use Rattle.rules.specs.Rules.{internals, scaled_to, tree_scaled, tree_scale_ratio}
use Rattle.calls.specs.declared.Answered.{Answered}
use Rattle.calls.specs.declared.Turn.{Turn}
use Rattle.calls.specs.declared.Turned.{Turned}
use Rattle.calls.specs.declared.Turned.TheVariants as Turns
use Rattle.calls.specs.Call.{Reply, makes, not_finite, Outcome, moved, called, limited}
use Rattle.calls.specs.Draws.{scaler, least}
use Rattle.moves.specs.Programs.{overflows, tree_scale}
use Rattle.calls.specs.Given.{After, after, after_on, turn_of, turned_back, answered_of}
use Rattle.calls.specs.Harmless.{Unvalidated, Turning}
use Rattle.calls.proofs.EntryLaws.{unvalidated-refused, unvalidated-done}
use Rattle.calls.specs.LeastLaws.{least-none, least_step, least-stop, least-some}
use Rattle.heights.specs.Given.{heights_of, scalable, scaled_with, scaled_turn, scaled_by}
use Rattle.random.specs.SupplyLaws.{drawn-got, drawn-spent}
use Rattle.heights.specs.ProductLaws.{height-finite}
use Rattle.accepted.specs.RootLaws.{root-inner}
use Rattle.std.specs.Prelude.{Some, None, Result, Ok, Err}

-- ---- the lowest node that overflows

module _ (hs : List Float) (f : Float) where
  abbrev over : ℕ → Bool
  over = overflows (length hs) (heights_of hs) f

  pub lowest_start : least over (length hs / 2 + 1) ≡ length hs / 2 + 1
  lowest_start = least-none over (length hs / 2 + 1) (λ k h. rw (le-ltb (length hs) (k + k) (omega arith)))

  -- none before k does; k is at most the number of nodes, or 1 where there is no node
  module _ (k : ℕ) (i : least over k ≡ k) where
    module _ (p : length hs / 2 < k) (b : Bool) (e : b ≡ finite (mul binary64 (get_or hs k nan) f)) where
      pub lowest_step : b ≡ true → least over (k + 1) ≡ k + 1
      unfolding height
      lowest_step h = least_step over k i (rw (lt-ltb (length hs) (k + k) (omega arith), ← e, h))

      pub lowest-stop : k < length hs → b ≡ false → k ≡ least over (length hs)
      unfolding height
      lowest-stop l h = sym (least-stop over k i (length hs) l (rw (lt-ltb (length hs) (k + k) (omega arith), ← e, h)))

    pub lowest-end : length hs ≤ k → k ≤ length hs + (1 - length hs) → length hs ≡ least over (length hs)
    lowest-end l u = go (length hs) l u
      where
        go : (n : ℕ) → n ≤ k → k ≤ n + (1 - n) → n ≡ least over n
        go zero l u = sym (least-none over zero (λ j h. absurd (omega arith)))
        go (suc n) l u = let z : suc n ≡ k = omega arith in rw z (sym i)

pub ruleset lowest_laws = (lowest_start, lowest_step, lowest-stop, lowest-end)

-- ---- the heights that are scaled

module _ (n : ℕ) (t : Tree) (f : Float) where
  -- no tip is
  scaled-tips : (m : ℕ) → m ≤ n / 2 + 1 → scaled_to n t f m ≡ t
  unfolding scaled_to
  scaled-tips zero h = refl
  scaled-tips (suc m) h = rw (le-ltb n (m + m) (omega arith)) (scaled-tips m (omega arith))

  -- one node more
  scaled-inner : (m : ℕ) → n / 2 < m → scaled_to n t f (suc m) ≡ set_height (scaled_to n t f m) m (mul binary64 (height t m) f)
  unfolding scaled_to
  scaled-inner m h = rw (lt-ltb n (m + m) (omega arith))

  -- the nodes that have not been come to keep their heights
  scaled-later : (m k : ℕ) → m ≤ k → get_or (scaled_to n t f m).heights k nan ≡ height t k
  unfolding scaled_to set_height height
  scaled-later zero k h = refl
  scaled-later (suc m) k h = go (inner n m) (scaled-later m k (omega arith))
    where
      go : (b : Bool) → get_or (scaled_to n t f m).heights k nan ≡ height t k
          → get_or (cond b (set_height (scaled_to n t f m) m (mul binary64 (height t m) f)) (scaled_to n t f m)).heights k nan ≡ height t k
      go true e = get_or-set_other (scaled_to n t f m).heights m k (mul binary64 (height t m) f) nan (omega arith) ∙ e
      go false e = e

  -- only the heights change, whatever else the tree has
  scaled-whole : (m : ℕ) → scaled_to n t f m ≡ tree_of t.pairs t.parents (scaled_to n (heights_of t.heights) f m).heights t.root
  unfolding scaled_to set_height height
  scaled-whole zero = refl
  scaled-whole (suc m) = go (inner n m) (scaled-whole m)
    where
      go : (b : Bool) → scaled_to n t f m ≡ tree_of t.pairs t.parents (scaled_to n (heights_of t.heights) f m).heights t.root
          → cond b (set_height (scaled_to n t f m) m (mul binary64 (height t m) f)) (scaled_to n t f m)
          ≡ tree_of t.pairs t.parents (cond b (set_height (scaled_to n (heights_of t.heights) f m) m (mul binary64 (height t m) f)) (scaled_to n (heights_of t.heights) f m)).heights t.root
      go true e = ap (λ (x : Tree). set_height x m (mul binary64 (height t m) f)) e
      go false e = e

module _ (hs₀ : List Float) (f : Float) where
  abbrev start : Tree
  start = heights_of hs₀

  pub scale-start : hs₀ ≡ (scaled_to (length hs₀) start f (length hs₀ / 2 + 1)).heights
  scale-start = ap (λ (x : Tree). x.heights) (sym (scaled-tips (length hs₀) start f (length hs₀ / 2 + 1) (omega arith)))

  -- those before k are; k is at most the number of nodes, or 1 where there is no node
  module _ (k : ℕ) (hs : List Float) (i : hs ≡ (scaled_to (length hs₀) start f k).heights) where
    pub scale-step : length hs₀ / 2 < k → set hs k (mul binary64 (get_or hs k nan) f) ≡ (scaled_to (length hs₀) start f (k + 1)).heights
    unfolding set_height
    scale-step h = rw (add-one, scaled-inner (length hs₀) start f k h, i, scaled-later (length hs₀) start f k k (omega arith))

    pub scale-end : length hs₀ ≤ k → k ≤ length hs₀ + (1 - length hs₀) → hs ≡ (scaled_to (length hs₀) start f (length hs₀)).heights
    scale-end l u = i ∙ ap (λ (x : Tree). x.heights) (go (length hs₀) l u)
      where
        go : (n : ℕ) → n ≤ k → k ≤ n + (1 - n) → scaled_to n start f k ≡ scaled_to n start f n
        go zero l u = scaled-tips zero start f k (omega arith) ∙ sym (scaled-tips zero start f zero (omega arith))
        go (suc n) l u = let z : k ≡ suc n = omega arith in ap (scaled_to (suc n) start f) z

pub ruleset scale_laws = (scale-start, scale-step, scale-end)

-- ---- the ratio

-- k is a number of internal nodes
module _ (k : ℕ) where
  less_two : k ≤ 4095 → SFits w32 (pos k -ℤ pos 2)
  less_two h = go (ltb k 2)
    where
      go : (b : Bool) → SFits w32 (cond b (negsuc (2 - suc k)) (pos (k - 2)))
      go true = record { sfits = omega arith }
      go false = record { sfits = omega arith }

module _ (n : ℕ) (h : n ≤ 4095) where
  -- the bits of a small number are read as that number
  read : to_z w32 (n / 2) ≡ pos (internals n)
  read = let e : internals n ≡ n / 2 = omega arith in to_z_pos w32 (omega arith) ∙ ap pos (sym e)

  pub ratio-fits : SFits w32 (to_z w32 (n / 2) -ℤ pos 2)
  ratio-fits = rw read (less_two (internals n) (omega arith))

  pub ratio-is : (f : Float) → Power f (to_z w32 (of_z w32 (to_z w32 (n / 2) -ℤ pos 2))) ≡ tree_scale_ratio n f
  ratio-is f = rw read (ap (Power f) (to_z-of_z (less_two (internals n) (omega arith))))

pub ruleset ratio_laws = (ratio-fits, ratio-is)

-- ---- the turn

-- what the test of the range shows
module _ (heights : List Float) (root : ℕ) (c : Bool) (e : c ≡ scalable heights root) (k : c ≡ true) where
  passed : T (scalable heights root)
  passed = rw (← e, k) tt

  pub few-nodes : length heights ≤ 4095
  few-nodes = leb→le (length heights) 4095 (and_l (leb (length heights) 4095) (ltb root (length heights)) passed)

  pub root-place : root < length heights
  root-place = ltb→lt root (length heights) (and_r (leb (length heights) 4095) (ltb root (length heights)) passed)

module _ (pairs parents : List ℕ) (heights : List Float) (root : ℕ) (tuning : Float) (s : Supply) where
  abbrev t : Tree
  t = tree_of pairs parents heights root

  abbrev n : ℕ
  n = nodes_of pairs

  pub tree-spent : None ≡ drawn (run uniform s) → after_on Turns.Spent s t ≡ turn_of t s (run (tree_scale tuning t) s)
  unfolding tree_scale turn_of
  tree-spent e = rw (bind-spent uniform _ s (drawn-spent _ e))

  -- c is whether the root is in range and the tree no larger than any, as it is where it is valid
  pub tree-unscalable : Valid (nodes_of pairs) (tree_of pairs parents heights root) → (c : Bool) → c ≡ scalable heights root → c ≡ false → (a : After)
      → a ≡ turn_of t s (run (tree_scale tuning t) s)
  tree-unscalable v c ec k a =
      absurd (true≢false (sym (ec ∙ rw (v.sized.heights, le-leb n 4095 v.sized.few, lt-ltb root n v.root_node)) ∙ k))

  -- u is the uniform, next the supply after it, f the factor, and b whether its product with the root's height is finite
  module _ (v : Valid (nodes_of pairs) (tree_of pairs parents heights root)) (u : Float) (next : Supply) (e : Some (u, next) ≡ drawn (run uniform s))
      (f : Float) (ef : f ≡ scaler tuning u) (b : Bool)
      (eb : b ≡ finite (mul binary64 (get_or heights root nan) f)) where
    abbrev k : ℕ
    k = least (overflows n t f) n

    long : length heights ≡ n
    long = v.sized.heights

    -- the turn, with k the lowest node that overflows
    ran : run (tree_scale tuning t) s ≡ got (cond (ltb k n) (not_finite k) (makes (moved (tree_scaled n t f) (tree_scale_ratio n f)))) next
    unfolding tree_scale run
    ran = rw (bind-got uniform _ s u next (drawn-got _ u next e), ← ef)

    -- none does where the root's product is finite
    all-finite : b ≡ true → k ≡ n
    unfolding height
    all-finite y = least-none (overflows n t f) n (λ c C. go (inner n c) (product c) (is_true (product c) (height-finite v f (rw (← eb, y) tt) c C)))
      where
        product : ℕ → Bool
        product c = finite (mul binary64 (height t c) f)

        go : (i x : Bool) → x ≡ true → i && not x ≡ false
        go true x z = rw z
        go false x z = refl

    moved_to : b ≡ true → (z : Ratio) → z ≡ tree_scale_ratio (length heights) f → (hs : List Float) → hs ≡ (scaled_to (length heights) (heights_of heights) f (length heights)).heights
        → after_on (Turns.Moved root z) next (tree_of pairs parents hs root) ≡ turn_of t s (run (tree_scale tuning t) s)
    unfolding turn_of
    moved_to y z ez hs w = rw (ran, all-finite y, le-ltb n n (omega arith), scaled-whole n t f n, ez, w, long)

    pub tree-moved : b ≡ true → (z : Ratio) → z ≡ tree_scale_ratio (length heights) f
        → after_on (Turns.Moved root z) next (tree_of pairs parents (scaled_with z heights) root) ≡ turn_of t s (run (tree_scale tuning t) s)
    tree-moved y z ez = moved_to y z ez (scaled_with z heights) (ap (λ (x : Ratio). scaled_with x heights) ez)

    pub tree-not-finite : b ≡ false → (j : ℕ) → j ≡ least (overflows (length heights) (heights_of heights) f) (length heights)
        → after_on (Turns.NotFinite j) next t ≡ turn_of t s (run (tree_scale tuning t) s)
    unfolding turn_of height
    tree-not-finite y j ej =
        let m : least (overflows n t f) n < n = least-some (overflows n t f) n root v.root_node (rw (lt-ltb n (root + root) (root-inner v), ← eb, y)) in
        rw (ran, lt-ltb k n m, ej, long)

pub ruleset tree_scale_laws = (tree-spent, tree-unscalable, tree-moved, tree-not-finite, few-nodes, root-place, wide16)

-- ---- the answer, and the heights after it

-- a call's answer scales as its turn does
settled : (x : Turned) (s : Supply) (g : Random) (allowance : ℕ) (hs : List Float) → scaled_by (answered_of x s g allowance).answer hs ≡ scaled_turn x hs
unfolding answered_of
settled (Turns.Moved root r) s g allowance hs = refl
settled Turns.Declined s g allowance hs = refl
settled Turns.Spent s g allowance hs = refl
settled (Turns.NotFinite k) s g allowance hs = refl
settled (Turns.Outside k) s g allowance hs = refl

-- as for any unvalidated call (calls/EntryLaws)
module _ (pairs parents : List ℕ) (heights : List Float) (root : ℕ) (limits b : Bool) (eb : b ≡ limits) (allowance : ℕ) (v : Result (Unit {0}) Refusal) (ev : v ≡ limited b allowance)
    (program : Draw (Reply Outcome)) (g : Random) where
  pub scale-refused : (why : Refusal) → v ≡ Err why → (r : Answered) → r ≡ turned_back why g
      → Unvalidated limits program (tree_of pairs parents heights root) g allowance (called r.answer r.random pairs parents (scaled_by r.answer heights))
  scale-refused why y r er =
      let e : scaled_by r.answer heights ≡ heights = ap (λ (x : Answered). scaled_by x.answer heights) er in
      rw e (unvalidated-refused pairs parents heights root limits b eb allowance v ev program g why y r er)

  pub scale-done : v ≡ (Ok tt) → (turn : Turn)
      → Turning (Valid (nodes_of pairs) (tree_of pairs parents heights root)) (turn_of (tree_of pairs parents heights root) (supply_of g allowance) (run program (supply_of g allowance)))
      (tree_of pairs parents heights root) (supply_of g allowance) (after turn pairs parents (scaled_turn turn.turned heights))
      → (r : Answered) → r ≡ answered_of turn.turned turn.supply g allowance
      → Unvalidated limits program (tree_of pairs parents heights root) g allowance (called r.answer r.random pairs parents (scaled_by r.answer heights))
  scale-done y turn f r er =
      let e : scaled_by r.answer heights ≡ scaled_turn turn.turned heights = ap (λ (x : Answered). scaled_by x.answer heights) er ∙ settled turn.turned turn.supply g allowance heights in
      rw e (unvalidated-done pairs parents heights root limits b eb allowance v ev program g y turn pairs parents (scaled_turn turn.turned heights) f r er)

pub ruleset scale_answer_laws = (scale-refused, scale-done)
