-- `speciation::yule_log_density` meets its contract. Assumes nothing.
use Rattle.std.proofs.Common.{rules}
use Rattle.speciation.proofs.YuleLaws.{root-inside}
use Rattle.speciation.proofs.yule_log_density.Goals as goal

pub bounds-heights-tree-inside : goal.bounds-heights-tree-inside
bounds-heights-tree-inside c = rw (← c.tree.view_is) at (root-inside c.args.tree.now c.args.rate c.in_ok-validate.ensures)

pub offset_bounds-heights-tree-inside : goal.offset_bounds-heights-tree-inside
offset_bounds-heights-tree-inside c = let h = rw (← c.tree.view_is) at (root-inside c.args.tree.now c.args.rate c.in_ok-validate.ensures) in search rules
