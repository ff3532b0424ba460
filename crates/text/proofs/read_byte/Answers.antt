-- `text::read_byte` meets its contract. Assumes nothing.
use Rattle.std.proofs.Common.{◌<◌, length}
use Rattle.text.proofs.ReadLaws.{byte-other}
use Rattle.text.proofs.read_byte.Goals as goal

pub returns-else-branch-byte : goal.returns-else-branch-byte
returns-else-branch-byte c = let h = c.in_ok-get.ensures.lookup in let t : c.args.at < length c.args.s.now = h.3.0 in byte-other _ _ _ _ t h.3.1 c.if-branch-byte.false
