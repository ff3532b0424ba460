-- `Dating::initialize`: every tip at the middle of its ages, and the internal heights scaled to what is left under the origin, in the Rust's order of
-- operations. Definitions only. Assumes nothing.
use Rattle.std.specs.Prelude.{Bool, not, ◌&&◌, cond, List, ℕ, zero, suc, ltb, set, Float, Result, Ok, Err}
use Rattle.std.specs.Float.{binary64}
use Rattle.std.specs.Float.Ieee.{of_bits, lt, add, sub, mul, div}
use Rattle.std.specs.Float.Ieee.Scale.{finite}
use Rattle.answer.specs.declared.Refusal.TheVariants.{NotFinite}
use Rattle.real.specs.Real as Real
use Rattle.real.specs.Real.{max_of}
use Rattle.tree.specs.Tree.{Tree, nodes_of, tips_of, inner, height}
use Rattle.calls.specs.Call.{and_then}
use Rattle.calls.specs.Draws.{least}
use Rattle.process.specs.declared.FossilizedBirthDeath.{FossilizedBirthDeath}
use Rattle.process.specs.Process.{process_finite}
use Rattle.ages.specs.declared.TipAge.{TipAge}
use Rattle.ages.specs.Ages.{age_of, table_checked}
use Rattle.answer.specs.declared.Refusal.{Refusal}

-- 2.0 and 0.8
abbrev pub two : Float
two = of_bits binary64 0x4000_0000_0000_0000

abbrev pub four_fifths : Float
four_fifths = of_bits binary64 0x3fe9_9999_9999_999a

-- ---- the new heights

-- the middle of a tip's ages
unfoldable pub midpoint : TipAge → Float
midpoint a = add binary64 a.minimum (div binary64 (sub binary64 a.maximum a.minimum) two)

-- the oldest of the first m tips, and 0.0 at least
unfoldable pub oldest : List Float → List Float → ℕ → Float
oldest minima maxima zero = Real.zero
oldest minima maxima (suc m) = max_of (oldest minima maxima m) (midpoint (age_of minima maxima m))

-- 0.8 of what is left under the origin, over the root's height
unfoldable pub stretch : Float → Float → Float → Float
stretch origin old top = div binary64 (mul binary64 four_fifths (sub binary64 origin old)) top

-- a table's tips and the internal nodes above them: n nodes, the oldest tip, the factor
pub record Start : Type 0 where
  pub nodes : ℕ
  pub minima : List Float
  pub maxima : List Float
  pub old : Float
  pub factor : Float

-- of the tree t with a table and an origin
abbrev pub start_of : List Float → List Float → Float → Tree → Start
start_of minima maxima origin t =
    let n = nodes_of t.pairs in
    let old = oldest minima maxima (tips_of n) in
    record { nodes = n; minima = minima; maxima = maxima; old = old; factor = stretch origin old (height t t.root) }

-- the new height of a node that was at h
unfoldable pub initial_height : Start → ℕ → Float → Float
initial_height s k h = cond (inner s.nodes k) (add binary64 s.old (mul binary64 h s.factor)) (midpoint (age_of s.minima s.maxima k))

-- it is not finite
abbrev pub overflows_at : Start → Tree → ℕ → Bool
overflows_at s t k = not (finite (initial_height s k (height t k)))

-- the first m nodes have theirs
unfoldable pub initial_to : Start → Tree → ℕ → List Float
initial_to s t zero = t.heights
initial_to s t (suc m) = set (initial_to s t m) m (initial_height s m (height t m))

-- ---- the call

-- "`initialize` needs root height above 0 and origin above the oldest tip"
unfoldable pub start_fits : List Float → List Float → FossilizedBirthDeath → Tree → Bool
start_fits minima maxima p t =
    process_finite p && lt Real.zero (height t t.root) && lt (oldest minima maxima (tips_of (nodes_of t.pairs))) p.origin

-- 7: "lowest node whose new height is not finite"
unfoldable pub all_finite : Start → Tree → Result (Unit {0}) Refusal
all_finite s t = let k = least (overflows_at s t) s.nodes in cond (ltb k s.nodes) (Err (NotFinite k)) (Ok tt)

-- what the call leaves: its answer, and the lent heights
pub record Initialized : Type 0 where
  pub answer : Result (Unit {0}) Refusal
  pub heights : List Float

abbrev pub initialized : Result (Unit {0}) Refusal → List Float → Initialized
initialized answer heights = record { answer = answer; heights = heights }

-- nothing is written where the call is turned back
abbrev pub or_kept : Result (Unit {0}) Refusal → List Float → List Float → Initialized
or_kept (Err why) old new = initialized (Err why) old
or_kept (Ok tt) old new = initialized (Ok tt) new

unfoldable pub initialize_call : List Float → List Float → FossilizedBirthDeath → Tree → Initialized
initialize_call minima maxima p t =
    let n = nodes_of t.pairs in
    let s = start_of minima maxima p.origin t in
    or_kept (and_then (table_checked p minima maxima t (start_fits minima maxima p t)) (all_finite s t)) t.heights (initial_to s t n)
