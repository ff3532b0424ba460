-- `nodes::tree_length` meets its contract. Assumes nothing.
use Rattle.std.specs.Prelude.{◌≡◌, length, Ok}
use Rattle.nodes.specs.Nodes.{length_to}
use Rattle.nodes.proofs.tree_length.Given as goal

abbrev pub invariant-loop-node : goal.invariant-loop-node
invariant-loop-node l = (length l.heights ≡ length l.parents) × (length_to l.parents l.heights l.node ≡ Ok l.total)
