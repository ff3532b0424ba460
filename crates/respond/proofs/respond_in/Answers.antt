-- `respond::respond_in` meets its contract, by what was read of the file. Assumes nothing.
use Rattle.respond.proofs.FileLaws.{file-wrong, file-large, file-state}
use Rattle.respond.proofs.respond_in.Goals as goal

pub returns-then-n-gt-MOST_NODES : goal.returns-then-n-gt-MOST_NODES
returns-then-n-gt-MOST_NODES c =
    file-large _ _ _ _ _ _ c.requires _ c.read_state.ensures _ _ c.in-Ok.head c.in-Ok.is _ c.node_count-n.ensures c.if-n-gt-MOST_NODES.true
    c.put_refusal.ensures

pub returns-else-heights-n : goal.returns-else-heights-n
returns-else-heights-n c =
    file-state _ _ _ _ _ _ c.requires _ c.read_state.ensures _ _ c.in-Ok.head c.in-Ok.is _ c.node_count-n.ensures c.read_state.auto.heights
    c.if-heights-n.false c.answer_state.ensures

pub returns-in-Err : goal.returns-in-Err
returns-in-Err c = file-wrong _ _ _ _ _ _ c.requires _ c.read_state.ensures _ _ c.in-Err.wrong c.in-Err.is c.put_refusal-in-Err.ensures
