-- `tree::root` meets its contract: what `contains` answers, in the words of RootLaws. Assumes nothing.
use Rattle.std.proofs.Common.{◌≡◌, Some, arith}
use Rattle.tree.proofs.RootLaws.{root_second, root_one}
use Rattle.tree.proofs.root.Goals as goal

pub returns-then-contains : goal.returns-then-contains
returns-then-contains c =
    let y : c.first_root.result ≡ Some c.in_ok-root.root = grind (arith, c.in_ok-root.was, c.ok_or.ensures.value) in
    root_second c.args.parents.now _ c.first_root.ensures _ y _ c.contains.ensures.value c.if-contains.true

pub returns-else-contains : goal.returns-else-contains
returns-else-contains c =
    let y : c.first_root.result ≡ Some c.in_ok-root.root = grind (arith, c.in_ok-root.was, c.ok_or.ensures.value) in
    root_one c.args.parents.now _ c.first_root.ensures _ y _ c.contains.ensures.value c.if-contains.false
