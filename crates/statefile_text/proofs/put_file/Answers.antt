-- `statefile_text::put_file` meets its contract. Assumes nothing.
use Rattle.statefile_text.proofs.RoomLaws.{file-whole}
use Rattle.statefile_text.proofs.put_file.Goals as goal

pub returns-else-less_all-eq0 : goal.returns-else-less_all-eq0
returns-else-less_all-eq0 c = file-whole _ _ _ c.less_all.ensures c.if-less_all-eq0.false _ _ c.put_all.ensures
