-- `tree::new` meets its contract: the place for the parents, and what the shape and the heights say. Assumes nothing.
use Rattle.std.specs.Prelude.{Ok, Err}
use Rattle.std.proofs.Common.{◌≡◌, ◌∙◌, ap, arith}
use Rattle.tree.specs.New.{new_call}
use Rattle.tree.specs.Given.{new_given}
use Rattle.tree.proofs.CallLaws.{parents-fit, place-fits, place-long, place-scans, new_size, new-unshaped, new-misdated, new-made}
use Rattle.tree.proofs.new.Goals as goal

pub returns-then-not-sizes_fit : goal.returns-then-not-sizes_fit
returns-then-not-sizes_fit c = new_size _ _ _ _ c.sizes_fit.ensures c.if-not-sizes_fit.true

pub slice_bounds-all-end : goal.slice_bounds-all-end
slice_bounds-all-end c = place-fits _ _ _ _ c.sizes_fit.ensures c.if-not-sizes_fit.false

pub slice_bounds-place-end : goal.slice_bounds-place-end
slice_bounds-place-end c = place-long _ _ _ _ c.sizes_fit.ensures c.if-not-sizes_fit.false 4095 (omega arith)

pub shape-requires : goal.shape-requires
shape-requires c = place-scans _ _ _ _ c.sizes_fit.ensures c.if-not-sizes_fit.false 4095 (omega arith)

pub returns-in_err-root : goal.returns-in_err-root
returns-in_err-root c =
    let h : new_given (Err c.in_err-root.field-0.0) c.args.parents.now ≡ new_call c.args.pairs.now c.args.heights.now c.args.parents.now
    = new-unshaped _ _ _ _ c.sizes_fit.ensures c.if-not-sizes_fit.false 4095 (omega arith) _ _ c.shape.ensures _ c.in_err-root.was in
    grind (arith, h, c.from_residual.ensures)

pub returns-in_err-check_heights : goal.returns-in_err-check_heights
returns-in_err-check_heights c =
    let h : new_given (Err c.in_err-check_heights.field-0.0) c.args.parents.now ≡ new_call c.args.pairs.now c.args.heights.now c.args.parents.now
    = new-misdated _ _ _ _ c.sizes_fit.ensures c.if-not-sizes_fit.false 4095 (omega arith) _ _ c.shape.ensures _ c.in_ok-root.was _ c.check_heights.ensures _ c.in_err-check_heights.was in
    grind (arith, h, c.from_residual-in_err-check_heights.ensures)

pub copy_from_slice-requires : goal.copy_from_slice-requires
copy_from_slice-requires c = omega (
  arith,
  c.shape.auto.parents,
  place-long _ _ _ _ c.sizes_fit.ensures c.if-not-sizes_fit.false 4095 (omega arith),
  parents-fit _ _ _ _ c.sizes_fit.ensures c.if-not-sizes_fit.false,
)

pub returns : goal.returns
returns c =
    ap (new_given (Ok c.in_ok-root.root)) c.copy_from_slice.ensures.after
    ∙ new-made _ _ _ _ c.sizes_fit.ensures c.if-not-sizes_fit.false 4095 (omega arith) _ _ c.shape.ensures _ c.in_ok-root.was _ c.check_heights.ensures c.in_ok-check_heights.was
