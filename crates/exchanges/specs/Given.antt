-- What the code of the exchanges reads of a tree, what a turn of NarrowExchange leaves, and of which trees. Definitions only. Assumes nothing.
use Rattle.std.specs.Prelude.{Bool, List, [], ℕ, ◌+◌, ◌<◌, Float}
use Rattle.random.specs.declared.Supply.{Supply}
use Rattle.random.specs.Draw.{coin, got}
use Rattle.tree.specs.Tree.{Tree}
use Rattle.tree.specs.Given.{kin_in}
use Rattle.tree.specs.Valid.{Valid}
use Rattle.rules.specs.Rules.{taller, uncle, side_of, narrowed, narrow_ratio}
use Rattle.calls.specs.declared.Turn.{Turn}
use Rattle.calls.specs.declared.Turned.TheVariants as Turns
use Rattle.calls.specs.Call.{makes, moved}
use Rattle.calls.specs.Given.{After, turn_of}

-- ---- what is read of a tree

-- its pairs
abbrev pub pairs_in : List ℕ → Tree
pairs_in pairs = kin_in pairs []

-- g's taller child, one side of that, and the uncle
unfoldable pub taller_in : List ℕ → List Float → ℕ → ℕ
taller_in pairs hs g = taller (kin_in pairs hs) g

unfoldable pub side_in : List ℕ → List Float → ℕ → Bool → ℕ
side_in pairs hs g coin = side_of (kin_in pairs hs) coin (taller_in pairs hs g)

unfoldable pub uncle_in : List ℕ → List Float → ℕ → ℕ
uncle_in pairs hs g = uncle (kin_in pairs hs) g

-- ---- a turn without the draws that it needs

abbrev pub spends : Supply → Turn
spends s = record { turned = Turns.Spent; supply = s }

-- ---- a turn of NarrowExchange

-- what the turn leaves where the side is drawn too, the supply then being s
unfoldable pub narrow_turn : ℕ → Tree → ℕ → Bool → Supply → After
narrow_turn n t g side s = turn_of t s (got (makes (moved (narrowed n t g side) (narrow_ratio n t g side))) s)

-- ---- what NarrowExchange has drawn

-- g is an internal node of a valid tree
pub record AtInner (n : ℕ) (t : Tree) (g : ℕ) : Type 0 where
  pub valid : Valid n t
  pub node : g < n
  pub inner : n < g + g

-- whose taller child is internal too
pub record Narrows (n : ℕ) (t : Tree) (g : ℕ) : Type 0 where
  pub under : AtInner n t g
  pub parent : n < taller t g + taller t g
