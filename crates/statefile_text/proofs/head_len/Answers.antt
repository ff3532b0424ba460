-- `statefile_text::head_len` meets its contract. Assumes nothing.
use Rattle.std.proofs.Common.{ap, length}
use Rattle.statefile_text.proofs.RoomLaws.{name-fits, node-fits, tips-fit}
use Rattle.statefile_text.proofs.head_len.Goals as goal

pub overflow_add-result-2 : goal.overflow_add-result-2
overflow_add-result-2 c = name-fits _ _ c.decimal_len.ensures c.args.asked.kind _ (ap length c.name.ensures)

pub overflow_add-result-3 : goal.overflow_add-result-3
overflow_add-result-3 c = node-fits _ _ c.decimal_len.ensures c.args.asked.kind _ (ap length c.name.ensures) _ _ c.decimal_len-2.ensures

pub overflow_add-result-4 : goal.overflow_add-result-4
overflow_add-result-4 c =
    tips-fit _ _ c.decimal_len.ensures c.args.asked.kind _ (ap length c.name.ensures) _ _ c.decimal_len-2.ensures _ _ c.decimal_len-3.ensures
