-- `clades::is_monophyletic_in` meets its contract. Assumes nothing.
use Rattle.std.proofs.Common.{◌≡◌, ◌+◌, ◌/◌, length, subst}
use Rattle.tree.specs.Tree.{Tree}
use Rattle.clades.proofs.CallLaws.{entry-few}
use Rattle.clades.proofs.is_monophyletic_in.Goals as goal

pub size-requires : goal.size-requires
size-requires c =
    let m = subst (λ (t : Tree). length c.args.members.now ≡ (length t.pairs / 2 + 1) / 2) c.tree.view_is c.if-members-n.false in
    entry-few _ _ m _ c.validate.ensures c.in_ok-validate.was
