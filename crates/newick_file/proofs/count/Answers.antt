-- `newick_file::count` meets its contract. Assumes nothing.
use Rattle.std.proofs.Common.{◌∙◌}
use Rattle.newick_file.proofs.PassLaws.{close-byte, counted_next, counted-few, counted-end}
use Rattle.newick_file.proofs.count.Goals as goal

pub loop-b-preserved : goal.loop-b-preserved
loop-b-preserved c =
    let h = c.loop-b.invariant in
    rw (c.from-n.ensures ∙ close-byte _)
    (record { few = counted-few _ _ _ h.few h.rest; rest = counted_next _ _ _ h.few h.rest c.loop-b-test.true })

pub returns : goal.returns
returns c = let h = c.loop-b.invariant in counted-end _ _ _ h.few h.rest c.loop-b-test.false
