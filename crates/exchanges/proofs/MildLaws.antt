-- The ways through the exchanges on any slices: calls/HarmlessLaws, and a turn without the draws that it needs (`spent-mild`). Assumes nothing.
use mathlib.Core.Path.{◌≡◌}
use mathlib.Core.List.{List}
use Prim.Native.Nat.{ℕ}
use lib.Ieee.{Float}
use Rattle.random.specs.declared.Supply.{Supply}
use Rattle.tree.specs.Given.{tree_of}
use Rattle.calls.specs.declared.Turn.{Turn}
use Rattle.calls.specs.Given.{after}
use Rattle.calls.specs.Harmless.{Mild, spends}
use Rattle.calls.proofs.HarmlessLaws.{mild_laws}
use Rattle.exchanges.specs.Given.{spends as spends_turn}

pub spent-mild : (pairs parents : List ℕ) (heights : List Float) (root : ℕ) (s v : Supply) (r : Turn) → r ≡ spends_turn v → Mild (tree_of pairs parents heights root) s (after r pairs parents heights)
spent-mild pairs parents heights root s v r e = rw e (spends v)

pub ruleset exchange_mild_laws = (mild_laws, spent-mild)
