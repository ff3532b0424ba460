-- `copying::copy_file` meets its contract, by what was read of the file. Assumes nothing.
use Rattle.std.proofs.Common.{ℕ, rules}
use Rattle.std.proofs.lemmas.List.{length-replicate}
use Rattle.copying.proofs.FileLaws.{file-wrong, file-large, file-tree}
use Rattle.copying.proofs.copy_file.Goals as goal

pub returns-then-n-gt-MOST_NODES : goal.returns-then-n-gt-MOST_NODES
returns-then-n-gt-MOST_NODES c =
    file-large _ _ _ _ _ _ c.read_state.ensures _ _ c.in-Ok.head c.in-Ok.is _ c.node_count-n.ensures c.if-n-gt-MOST_NODES.true c.put_refusal.ensures

pub returns-else-n-gt-MOST_NODES : goal.returns-else-n-gt-MOST_NODES
returns-else-n-gt-MOST_NODES c =
    file-tree _ _ _ _ _ _ c.read_state.ensures _ _ c.in-Ok.head c.in-Ok.is _ c.node_count-n.ensures (length-replicate {A = ℕ} 8190 0)
    (search rules) c.if-n-gt-MOST_NODES.false c.copy_tree.ensures

pub returns-in-Err : goal.returns-in-Err
returns-in-Err c =
    file-wrong _ _ _ _ _ _ c.read_state.ensures _ _ c.in-Err.wrong c.in-Err.is c.put_refusal-in-Err.ensures
