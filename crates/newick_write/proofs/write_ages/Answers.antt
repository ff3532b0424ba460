-- `newick_write::write_ages` meets its contract. Assumes nothing.
use Rattle.std.proofs.Common.{◌≡◌, Some, arith}
use Rattle.newick_write.proofs.PutLaws.{copy-whole}
use Rattle.newick_write.proofs.write_ages.Goals as goal

pub returns : goal.returns
returns c =
    let h : c.take_whole.result ≡ Some c.in_ok-ok_or.field-0 = grind arith in
    copy-whole _ _ _ c.take_whole.ensures _ h _ _ c.put_whole.ensures
