-- `newick_read::all_seen` meets its contract. Assumes nothing.
use Rattle.std.proofs.Common.{◌≡◌, ℕ, ◌<◌, ◌↔◌, IsTrue, true, false, length, get_or, rules}
use Rattle.newick_read.proofs.SliceLaws.{seen_is}
use Rattle.newick_read.proofs.all_seen.Goals as goal

pub returns : goal.returns
returns c =
    let se = c.args.seen.now in
    let h : IsTrue c.all.result ↔ ((k : ℕ) → k < length se → get_or se k false ≡ true) = search rules in
    seen_is se c.all.result h
