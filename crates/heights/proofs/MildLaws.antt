-- The ways through the moves of heights on any slices: a turn without a move (`stay-mild`, `scale-stay-mild`), a height for a node (`placed-mild`), and every
-- internal height scaled (`scaled-mild`), which keeps the number of heights. Assumes nothing.
use mathlib.Core.Path.{◌≡◌, refl}
use mathlib.Core.Bool.{Bool, true, false, cond}
use mathlib.Core.List.{List}
use Prim.Native.Nat.{ℕ, zero, suc}
use lib.ListN.{length, length-set}
use lib.Ieee.{Float, binary64, mul}
use Rattle.answer.specs.declared.Ratio.{Ratio}
use Rattle.answer.specs.declared.Ratio.TheVariants as Ratios
use Rattle.random.specs.declared.Supply.{Supply}
use Rattle.random.specs.Draw.{run}
use Rattle.random.specs.Lawful.{Stepped}
use Rattle.tree.specs.Tree.{Tree, inner, height}
use Rattle.tree.specs.Given.{tree_of}
use Rattle.edits.specs.Slots.{set_height}
use Rattle.rules.specs.Rules.{scaled_to}
use Rattle.calls.specs.declared.Turn.{Turn}
use Rattle.calls.specs.declared.Turned.TheVariants as Turns
use Rattle.calls.specs.Given.{After, after, after_on, turn_of}
use Rattle.calls.specs.Harmless.{Mild}
use Rattle.calls.proofs.HarmlessLaws.{mild_laws, mild-moved, mild-declined, mild-later, run-mild}
use Rattle.moves.specs.Programs.{placing}
use Rattle.heights.specs.Given.{heights_of, stays, scaled_with, scaled_turn}

module _ (pairs parents : List ℕ) (heights : List Float) (root : ℕ) (s u : Supply) (h : Stepped s u) where
  abbrev t : Tree
  t = tree_of pairs parents heights root

  pub stay-mild : (r : Turn) → r ≡ stays u → Mild (tree_of pairs parents heights root) s (after r pairs parents heights)
  stay-mild r e = rw e (mild-declined pairs parents heights root s u h)

  pub scale-stay-mild : (r : Turn) → r ≡ stays u → Mild (tree_of pairs parents heights root) s (after r pairs parents (scaled_turn r.turned heights))
  scale-stay-mild r e = rw e (mild-declined pairs parents heights root s u h)

  pub placed-mild : (k : ℕ) (a : After) → a ≡ turn_of (tree_of pairs parents heights root) s (run (placing (tree_of pairs parents heights root) k) u) → length a.pairs ≡ length pairs
      → length a.parents ≡ length parents → length a.heights ≡ length heights → Mild (tree_of pairs parents heights root) s a
  placed-mild k a e p q l = mild-later h (run-mild t s u (placing t k) a e p q l)

-- ---- every internal height

scaled-length : (n : ℕ) (t : Tree) (f : Float) (m : ℕ) → length (scaled_to n t f m).heights ≡ length t.heights
unfolding scaled_to set_height
scaled-length n t f zero = refl
scaled-length n t f (suc m) = go (inner n m) (scaled-length n t f m)
  where
    go : (b : Bool) → length (scaled_to n t f m).heights ≡ length t.heights
        → length (cond b (set_height (scaled_to n t f m) m (mul binary64 (height t m) f)) (scaled_to n t f m)).heights ≡ length t.heights
    go true h = simp length-set h
    go false h = h

with-length : (z : Ratio) (hs : List Float) → length (scaled_with z hs) ≡ length hs
with-length (Ratios.Power f k) hs = scaled-length (length hs) (heights_of hs) f (length hs)
with-length Ratios.Even hs = refl
with-length (Ratios.Counts a b) hs = refl
with-length (Ratios.Lengths a b) hs = refl

pub scaled-mild : (pairs parents : List ℕ) (heights : List Float) (root : ℕ) (s u : Supply) → Stepped s u → (z : Ratio)
    → Mild (tree_of pairs parents heights root) s (after_on (Turns.Moved root z) u (tree_of pairs parents (scaled_with z heights) root))
scaled-mild pairs parents heights root s u h z =
    mild-moved pairs parents heights root s u root z pairs parents (scaled_with z heights) h refl refl (with-length z heights)

pub ruleset heights_mild_laws = (mild_laws, stay-mild, scale-stay-mild, placed-mild, scaled-mild)
