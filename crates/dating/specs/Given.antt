-- The forms in which the code of dating hands on what the definitions say. Definitions only. Assumes nothing.
use Rattle.std.specs.Prelude.{List, ℕ, Float}
use Rattle.real.specs.Real.{min_of}
use Rattle.tree.specs.Tree.{Tree, tips_of}
use Rattle.ages.specs.declared.TipAge.{TipAge}
use Rattle.dating.specs.Initialize.{oldest, stretch, Start, initial_to, all_finite, Initialized, or_kept}

-- ---- the new heights

abbrev pub start_with : ℕ → List Float → List Float → Float → Float → Start
start_with n minima maxima old factor = record { nodes = n; minima = minima; maxima = maxima; old = old; factor = factor }

-- with an origin, for n nodes with the root at top
abbrev pub start_in : ℕ → List Float → List Float → Float → Float → Start
start_in n minima maxima origin top = let old = oldest minima maxima (tips_of n) in start_with n minima maxima old (stretch origin old top)

-- past the checks: the answer, and the heights, which are those of the tree t
abbrev pub start_call : Start → Tree → Initialized
start_call s t = or_kept (all_finite s t) t.heights (initial_to s t s.nodes)

-- ---- the interval of a tip under a height

abbrev pub left_to : TipAge → Float → TipAge
left_to a above = record { minimum = a.minimum; maximum = min_of a.maximum above }
