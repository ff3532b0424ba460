-- `tree::validate` meets its contract: the place for the parents, and what the shape and the comparisons say. Assumes nothing.
use Rattle.std.proofs.Common.{◌≡◌, ◌∙◌, length, arith}
use Rattle.tree.proofs.CallLaws.{parents-fit, place-fits, place-long, place-scans, validate_size, validate-unshaped, validate-root, validate-parents, validate-dates}
use Rattle.std.specs.Prelude.{Err}
use Rattle.tree.specs.New.{validated}
use Rattle.tree.proofs.validate.Goals as goal
use Rattle.tree.proofs.validate.Goals.{then-root-tree-via-then-root-tree, then-root-tree-via-else-root-tree+then-ne}

pub returns-then-not-sizes_fit : goal.returns-then-not-sizes_fit
returns-then-not-sizes_fit c = validate_size _ _ _ _ c.sizes_fit.ensures c.if-not-sizes_fit.true _ _ c.tree.view_is

pub slice_bounds-all-end : goal.slice_bounds-all-end
slice_bounds-all-end c = place-fits _ _ _ _ c.sizes_fit.ensures c.if-not-sizes_fit.false

pub slice_bounds-place-end : goal.slice_bounds-place-end
slice_bounds-place-end c = place-long _ _ _ _ c.sizes_fit.ensures c.if-not-sizes_fit.false 4095 (omega arith)

pub shape-requires : goal.shape-requires
shape-requires c = place-scans _ _ _ _ c.sizes_fit.ensures c.if-not-sizes_fit.false 4095 (omega arith)

pub returns-in_err-root : goal.returns-in_err-root
returns-in_err-root c =
    let h : Err c.in_err-root.field-0.0 ≡ validated c.args.tree.now
    = validate-unshaped _ _ _ _ c.sizes_fit.ensures c.if-not-sizes_fit.false 4095 (omega arith) _ _ c.shape.ensures _ _ c.tree.view_is _ c.in_err-root.was in
    grind (arith, h, c.from_residual.ensures)

pub returns-then-root-tree : goal.returns-then-root-tree
returns-then-root-tree c =
    let l : length c.shape.new.parents ≡ length c.tree.inside.parents.now = omega (
      arith,
      c.shape.auto.parents,
      place-long _ _ _ _ c.sizes_fit.ensures c.if-not-sizes_fit.false 4095 (omega arith),
      parents-fit _ _ _ _ c.sizes_fit.ensures c.if-not-sizes_fit.false,
    ) in
    elim c.then-root-tree.branch [
      | then-root-tree-via-then-root-tree w ↦
          validate-root _ _ _ _ c.sizes_fit.ensures c.if-not-sizes_fit.false 4095 (omega arith) _ _ c.shape.ensures _ _ c.tree.view_is _ c.in_ok-root.was w.if-root-tree.true
      | then-root-tree-via-else-root-tree+then-ne w ↦
          validate-parents _ _ _ _ c.sizes_fit.ensures c.if-not-sizes_fit.false 4095 (omega arith) _ _ c.shape.ensures _ _ c.tree.view_is _ c.in_ok-root.was w.if-root-tree.false _ w.ne.ensures w.if-ne.true l
    ]

pub returns : goal.returns
returns c =
    c.check_heights.ensures
    ∙ validate-dates _ _ _ _ c.sizes_fit.ensures c.if-not-sizes_fit.false 4095 (omega arith) _ _ c.shape.ensures _ _ c.tree.view_is _ c.in_ok-root.was c.if-root-tree.false _ c.ne.ensures c.if-ne.false
