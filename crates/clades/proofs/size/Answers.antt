-- `clades::size` meets its contract. Assumes nothing.
use Rattle.std.proofs.Common.{◌≡◌, ◌∙◌, Bool}
use Rattle.std.specs.List.{count_by}
use Rattle.std.proofs.iter.Serving.{serving}
use Rattle.clades.proofs.WeighLaws.{counted}
use Rattle.clades.proofs.size.Goals as goal

pub returns : goal.returns
returns c =
    let e : c.count.result ≡ count_by (λ (b : Bool). b) c.args.members.now = grind serving in
    e ∙ counted c.args.members.now
