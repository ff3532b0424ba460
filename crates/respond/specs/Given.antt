-- What the code of respond is given in the slices that it is lent, and what it asks of them. Definitions only. Assumes nothing.
use Rattle.std.specs.Prelude.{◌≡◌, List, ℕ, ◌+◌, ◌<◌, length, Float, Option, Some, None}
use Rattle.tree.specs.Tree.{nodes_of}
use Rattle.statefile.specs.StateFile.{Nodes, state_file}
use Rattle.report.specs.Few.{Few}
use Rattle.report.specs.Report.{delivery, delivered}
use Rattle.respond.specs.Respond.{read_reply}

-- a tree as it is given, in the slices
abbrev pub nodes : List ℕ → List Float → Nodes
nodes pairs heights = record { pairs = pairs; heights = heights }

-- no more than the largest tree has, and a parent for each node
pub record Lent (pairs parents : List ℕ) (heights : List Float) : Type 0 where
  pub few : Few pairs heights
  pub each : length parents ≡ nodes_of pairs

-- room for a tree of as many nodes as there are heights
pub record Room (pairs parents : List ℕ) (heights : List Float) : Type 0 where
  pub places : length pairs ≡ length heights + length heights
  pub uppers : length parents ≡ length heights

-- The file s answered in room for so many nodes, out becoming after: or nothing written, where there is no room for its tree, as there is for any in 4,095.
abbrev pub tried : List ℕ → ℕ → List ℕ → Option ℕ → List ℕ → Type 0
tried s room out (Some count) after = delivery count after ≡ delivered out (read_reply (state_file s))
tried s room out None after = (after ≡ out) × (room < 4095)
