-- The seven tree moves as one: each with the parameters that its call takes, their limits, its program of draws, and its call. Definitions only.
-- Assumes nothing.
use Rattle.std.specs.Prelude.{Bool, true, ℕ, Float}
use Rattle.random.specs.declared.Random.{Random}
use Rattle.random.specs.Draw.{Draw}
use Rattle.tree.specs.Tree.{Tree}
use Rattle.calls.specs.Call.{Reply, Outcome, Called, Ending, limited, run_call, call_of, tree_call}
use Rattle.calls.specs.Harmless.{Unvalidated}
use Rattle.calls.specs.Draws.{tuned}
use Rattle.moves.specs.Programs as Programs
use Rattle.moves.specs.Programs.{slidable, Start}

-- a slide with its node and step, a scale with its tuning
pub data Move : Type 0 where
  node_height narrow_exchange wide_exchange wilson_balding : Move
  subtree_slide : ℕ → Float → Move
  root_scale tree_scale : Float → Move

-- the parameters other than the allowance are within their limits
abbrev pub limits : Move → Tree → Bool
limits node_height t = true
limits (subtree_slide i step) t = slidable t i step
limits narrow_exchange t = true
limits wide_exchange t = true
limits wilson_balding t = true
limits (root_scale s) t = tuned s
limits (tree_scale s) t = tuned s

abbrev pub program : Move → Tree → Draw (Reply Outcome)
program node_height t = Programs.node_height t
program (subtree_slide i step) t = Programs.subtree_slide i step t
program narrow_exchange t = Programs.narrow_exchange t
program wide_exchange t = Programs.wide_exchange t
program wilson_balding t = Programs.wilson_balding t
program (root_scale s) t = Programs.root_scale s t
program (tree_scale s) t = Programs.tree_scale s t

-- the call of a move on the tree t, with a generator and an allowance
abbrev pub move_call : Move → Tree → Random → ℕ → Called
move_call m t g allowance = tree_call (limits m t) (program m t) t g allowance

-- what an unvalidated call of a move leaves
abbrev pub UnvalidatedCall : Move → Tree → Random → ℕ → Called → Type 0
UnvalidatedCall m t g allowance c = Unvalidated (limits m t) (program m t) t g allowance c

-- the first call of a slide
abbrev pub start_call : Tree → Random → ℕ → Ending Start
start_call t g allowance = call_of true (Programs.slide_start t) t g allowance

-- the same with its limits checked alone, which is what the unvalidated one is on any slices
abbrev pub unvalidated_start : Tree → Random → ℕ → Ending Start
unvalidated_start t g allowance = run_call (limited true allowance) (Programs.slide_start t) g allowance
