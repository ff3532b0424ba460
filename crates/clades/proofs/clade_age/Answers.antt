-- `clades::clade_age` meets its contract. Assumes nothing.
use Rattle.std.proofs.Common.{◌≡◌, ◌+◌, ◌/◌, ◌<◌, length, subst, sym}
use Rattle.tree.specs.Tree.{Tree}
use Rattle.clades.proofs.CallLaws.{entry-few, age-place}
use Rattle.clades.proofs.clade_age.Goals as goal

pub size-size-requires : goal.size-size-requires
size-size-requires c =
    let m = subst (λ (t : Tree). length c.args.members.now ≡ (length t.pairs / 2 + 1) / 2) c.tree.view_is c.if-members-n.false in
    entry-few _ _ m _ c.validate.ensures c.in_ok-validate.was

pub bounds-tree-inside-age_node : goal.bounds-tree-inside-age_node
bounds-tree-inside-age_node c =
    let m = subst (λ (t : Tree). length c.args.members.now ≡ (length t.pairs / 2 + 1) / 2) c.tree.view_is c.if-members-n.false in
    subst (λ (t : Tree). c.age_node.result < length t.heights) (sym c.tree.view_is)
    (age-place _ _ m _ c.validate.ensures c.in_ok-validate.was _ c.first_node-node.ensures _ c.size-size.ensures _ c.age_node.ensures)
