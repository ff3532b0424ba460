-- The forms in which the code of the moves of heights hands on what the definitions say. Definitions only. Assumes nothing.
use Rattle.std.specs.Prelude.{Bool, ◌&&◌, List, [], ℕ, ltb, leb, eqb, length, get_or, Float}
use Rattle.random.specs.declared.Supply.{Supply}
use Rattle.tree.specs.Tree.{Tree, nodes_of, first_in, second_in}
use Rattle.tree.specs.Given.{kin_in}
use Rattle.calls.specs.declared.Turn.{Turn}
use Rattle.calls.specs.declared.Turned.{Turned}
use Rattle.calls.specs.declared.Turned.TheVariants as Turns
use Rattle.answer.specs.declared.Answer.{Answer}
use Rattle.answer.specs.declared.Answer.TheVariants as Answers
use Rattle.answer.specs.declared.Ratio.{Ratio}
use Rattle.answer.specs.declared.Ratio.TheVariants as Ratios
use Rattle.rules.specs.Rules.{scaled_to}

-- what is read of a tree for its heights alone
abbrev pub heights_of : List Float → Tree
heights_of heights = kin_in [] heights

-- a turn without a move
abbrev pub stays : Supply → Turn
stays s = record { turned = Turns.Declined; supply = s }

-- ---- what is in range; on an accepted tree all that a move looks at is (RangeLaws)

-- there are a pair and a parent for each of n nodes
abbrev pub shaped : List ℕ → List ℕ → ℕ → Bool
shaped pairs parents n = eqb (nodes_of pairs) n && eqb (length parents) n

-- k and both its children have heights
unfoldable pub has_children : List ℕ → List Float → ℕ → Bool
has_children pairs heights k =
    let n = length heights in
    ltb k n && ltb k (nodes_of pairs) && ltb (first_in pairs k) n && ltb (second_in pairs k) n

-- and so has its parent
unfoldable pub has_kin : List ℕ → List ℕ → List Float → ℕ → Bool
has_kin pairs parents heights k = has_children pairs heights k && ltb k (length parents) && ltb (get_or parents k 0) (length heights)

-- the root has a height, of no more than the largest tree has
abbrev pub scalable : List Float → ℕ → Bool
scalable heights root = leb (length heights) 4095 && ltb root (length heights)

-- ---- the heights after TreeScale

-- every internal height times the factor of a power
abbrev pub scaled_with : Ratio → List Float → List Float
scaled_with (Ratios.Power f k) heights = (scaled_to (length heights) (heights_of heights) f (length heights)).heights
scaled_with Ratios.Even heights = heights
scaled_with (Ratios.Counts a b) heights = heights
scaled_with (Ratios.Lengths a b) heights = heights

-- after a turn that ended so
abbrev pub scaled_turn : Turned → List Float → List Float
scaled_turn (Turns.Moved root ratio) heights = scaled_with ratio heights
scaled_turn Turns.Declined heights = heights
scaled_turn Turns.Spent heights = heights
scaled_turn (Turns.NotFinite k) heights = heights
scaled_turn (Turns.Outside k) heights = heights

-- after a call that answered so
abbrev pub scaled_by : Answer → List Float → List Float
scaled_by (Answers.Moved m) heights = scaled_with m.ratio heights
scaled_by (Answers.Declined draws) heights = heights
scaled_by (Answers.Refused why) heights = heights
