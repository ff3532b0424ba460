-- `statefile_text::less_heights` meets its contract. Assumes nothing.
use Rattle.statefile_text.proofs.RoomLaws.{heights-left}
use Rattle.statefile_text.proofs.less_heights.Goals as goal

pub returns : goal.returns
returns c = let h = c.saturating_mul.ensures in heights-left _ c.args.heights.now c.ranges.room.fits _ _ c.saturating_mul.ensures c.saturating_sub.ensures
