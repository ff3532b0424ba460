-- The ways through the new heights: the lowest that is not finite (`lowest_laws`), and the writing of all (`set_laws`). Assumes nothing.
use mathlib.Core.Path.{◌≡◌, refl, sym, ap, ◌∙◌}
use mathlib.Core.Bool.{Bool, true, false}
use mathlib.Core.List.{List, []}
use Prim.Native.Nat.{ℕ, zero, suc, ◌+◌, ◌≤◌, ◌<◌}
use native.Mathlib.Omega.{arith}
use native.Mathlib.Numerals.{add-one}
use lib.ListN.{length, get_or, set}
use lib.Seq.{get_or-set_other}
use lib.Ieee.{Float, nan}
use lib.Ieee.Scale.{finite}
use Rattle.tree.specs.Tree.{Tree, height}
use Rattle.tree.specs.Given.{kin_in}
use Rattle.calls.specs.Draws.{least}
use Rattle.calls.specs.LeastLaws.{least-none, least_step, least-stop}
use Rattle.dating.specs.Initialize.{Start, initial_height, overflows_at, initial_to}
use Rattle.dating.specs.Given.{start_with}

-- ---- the lowest that is not finite

module _ (hs : List Float) (minima maxima : List Float) (old factor : Float) where
  abbrev over : ℕ → Bool
  over = overflows_at (start_with (length hs) minima maxima old factor) (kin_in [] hs)

  pub lowest_start : least over 0 ≡ 0
  lowest_start = least-none over 0 (λ k h. absurd (omega arith))

  -- none before k is not; x is k's, and b whether it is finite
  module _ (k : ℕ) (i : least over k ≡ k) where
    module _ (x : Float) (ex : x ≡ initial_height (start_with (length hs) minima maxima old factor) k (get_or hs k nan)) (b : Bool) (eb : b ≡ finite x) where
      pub lowest_step : b ≡ true → least over (k + 1) ≡ k + 1
      unfolding height
      lowest_step y = least_step over k i (rw (← ex, ← eb, y))

      pub lowest-stop : k < length hs → b ≡ false → k ≡ least over (length hs)
      unfolding height
      lowest-stop l y = sym (least-stop over k i (length hs) l (rw (← ex, ← eb, y)))

    pub lowest-end : k ≤ length hs → length hs ≤ k → length hs ≡ least over (length hs)
    lowest-end l u = go (length hs) l u
      where
        go : (n : ℕ) → k ≤ n → n ≤ k → n ≡ least over n
        go n l u = let z : n ≡ k = omega arith in rw z (sym i)

pub ruleset lowest_laws = (lowest_start, lowest_step, lowest-stop, lowest-end)

-- ---- the writing of all

module _ (s : Start) (t : Tree) where
  -- the nodes that have not been come to keep their heights
  initial-later : (m k : ℕ) → m ≤ k → get_or (initial_to s t m) k nan ≡ height t k
  unfolding initial_to height
  initial-later zero k h = refl
  initial-later (suc m) k h = get_or-set_other (initial_to s t m) m k (initial_height s m (height t m)) nan (omega arith) ∙ initial-later m k (omega arith)

  -- whatever else the tree has
  pub initial-whole : (m : ℕ) → initial_to s t m ≡ initial_to s (kin_in [] t.heights) m
  unfolding initial_to height
  initial-whole zero = refl
  initial-whole (suc m) = ap (λ (l : List Float). set l m (initial_height s m (height t m))) (initial-whole m)

module _ (hs₀ minima maxima : List Float) (old factor : Float) where
  abbrev s : Start
  s = start_with (length hs₀) minima maxima old factor

  pub set-start : hs₀ ≡ initial_to s (kin_in [] hs₀) 0
  unfolding initial_to
  set-start = refl

  -- those before k have theirs
  module _ (k : ℕ) (hs : List Float) (i : hs ≡ initial_to s (kin_in [] hs₀) k) where
    pub set-step : (x : Float) → x ≡ initial_height s k (get_or hs k nan) → set hs k x ≡ initial_to s (kin_in [] hs₀) (k + 1)
    unfolding initial_to
    set-step x ex = rw (add-one, ex, i, initial-later s (kin_in [] hs₀) k k (omega arith))

    pub set-end : k ≤ length hs₀ → length hs₀ ≤ k → hs ≡ initial_to s (kin_in [] hs₀) (length hs₀)
    set-end l u = i ∙ go (length hs₀) l u
      where
        go : (n : ℕ) → k ≤ n → n ≤ k → initial_to s (kin_in [] hs₀) k ≡ initial_to s (kin_in [] hs₀) n
        go n l u = let z : k ≡ n = omega arith in ap (initial_to s (kin_in [] hs₀)) z

pub ruleset set_laws = (set-start, set-step, set-end)
