-- The forms in which the code of the moves hands on what the definitions say. A turn is a move on a tree and with parameters that have been
-- checked; it takes a supply, and hands on how it ended, the supply after it, and the lent slices. Definitions only. Assumes nothing.
use Rattle.std.specs.Prelude.{cond, List, ℕ, ◌-◌, Float, Option, Some, None}
use Rattle.answer.specs.declared.Refusal.{Refusal}
use Rattle.answer.specs.declared.Refusal.TheVariants.{Allowance, NotFinite, Outside}
use Rattle.answer.specs.declared.Answer.TheVariants as Answers
use Rattle.random.specs.declared.Random.{Random}
use Rattle.random.specs.declared.Supply.{Supply}
use Rattle.random.specs.Draw.{Drawn, spent, got}
use Rattle.tree.specs.Tree.{Tree}
use Rattle.rules.specs.Rules.{within}
use Rattle.calls.specs.declared.Answered.{Answered}
use Rattle.calls.specs.declared.Turned.{Turned}
use Rattle.calls.specs.declared.Turned.TheVariants as Turns
use Rattle.calls.specs.declared.Turn.{Turn}
use Rattle.calls.specs.Call.{Reply, makes, not_finite, outside, Outcome, declined, moved}
use Rattle.calls.specs.Draws.{interpolated}

-- ---- a turn

-- what a turn leaves
pub record After : Type 0 where
  pub turned : Turned
  pub supply : Supply
  pub pairs : List ℕ
  pub parents : List ℕ
  pub heights : List Float

abbrev pub after : Turn → List ℕ → List ℕ → List Float → After
after r pairs parents heights = record { turned = r.turned; supply = r.supply; pairs = pairs; parents = parents; heights = heights }

abbrev pub after_on : Turned → Supply → Tree → After
after_on r s t = record { turned = r; supply = s; pairs = t.pairs; parents = t.parents; heights = t.heights }

-- on the tree t, from the supply s; where the draws are spent, the supply as it came
unfoldable pub turn_of : Tree → Supply → Drawn (Reply Outcome) → After
turn_of t s spent = after_on Turns.Spent s t
turn_of t s (got (not_finite k) u) = after_on (Turns.NotFinite k) u t
turn_of t s (got (outside k) u) = after_on (Turns.Outside k) u t
turn_of t s (got (makes declined) u) = after_on Turns.Declined u t
turn_of t s (got (makes (moved w r)) u) = after_on (Turns.Moved w.root r) u w

-- ---- the answer of a call

abbrev pub turned_back : Refusal → Random → Answered
turned_back why g = record { answer = Answers.Refused why; random = g }

-- from how the call's turn ended, the generator as it came, and the allowance
unfoldable pub answered_of : Turned → Supply → Random → ℕ → Answered
answered_of (Turns.Moved root r) s g allowance = record { answer = Answers.Moved (record { root = root; draws = allowance - s.left; ratio = r }); random = s.random }
answered_of Turns.Declined s g allowance = record { answer = Answers.Declined (allowance - s.left); random = s.random }
answered_of Turns.Spent s g allowance = turned_back (Allowance allowance) g
answered_of (Turns.NotFinite k) s g allowance = turned_back (NotFinite k) g
answered_of (Turns.Outside k) s g allowance = turned_back (Outside k) g

-- ---- a drawn height

abbrev pub height_of : Float → Float → Float → Option Float
height_of lower upper u = let x = interpolated lower upper u in cond (within lower x upper) (Some x) None
