-- Request S-5 shown of every exported function (`lasting-exports`). A function makes a call on what its record holds beside the allowance, which a larger one
-- leaves as it is (WordLaws); the call is `Lasting` (CallLaws); and what it answers is written beside the allowance (KeptLaws), since the generator that it leaves
-- is the record's, stepped, and so of four words. Assumes nothing.
use Rattle.std.proofs.Common.{ap}
use Rattle.moves.specs.Moves.{node_height, subtree_slide, narrow_exchange, wide_exchange, wilson_balding, root_scale, tree_scale}
use Rattle.record.specs.Record.{node_in, tuning_in}
use Rattle.allowances.specs.Exports.{LastingExports}
use Rattle.allowances.specs.MoveExportLaws.{below-exported, checked-move, unvalidated-move, fixed, tuning-same, slide-same, start-exported, unvalidated-start}
use Rattle.allowances.specs.ParameterExportLaws.{scale-exported, clock-rate-exported, birth-difference-exported, birth-rate-exported, relative-death-exported, clock-sigma-exported, branch-rate-exported, fbd-exported, tip-age-exported}

-- ---- every function

pub lasting-exports : LastingExports
lasting-exports = record {
  rove_below = below-exported;
  rove_slide_start = start-exported;
  rove_node_height = checked-move (λ w. node_height) (fixed node_height);
  rove_subtree_slide = checked-move (λ w. subtree_slide (node_in w) (tuning_in w)) slide-same;
  rove_narrow_exchange = checked-move (λ w. narrow_exchange) (fixed narrow_exchange);
  rove_wide_exchange = checked-move (λ w. wide_exchange) (fixed wide_exchange);
  rove_wilson_balding = checked-move (λ w. wilson_balding) (fixed wilson_balding);
  rove_root_scale = checked-move (λ w. root_scale (tuning_in w)) (λ w b. ap root_scale (tuning-same w b));
  rove_tree_scale = checked-move (λ w. tree_scale (tuning_in w)) (λ w b. ap tree_scale (tuning-same w b));
  rove_slide_start_unvalidated = unvalidated-start;
  rove_node_height_unvalidated = unvalidated-move (λ w. node_height) (fixed node_height);
  rove_subtree_slide_unvalidated = unvalidated-move (λ w. subtree_slide (node_in w) (tuning_in w)) slide-same;
  rove_narrow_exchange_unvalidated = unvalidated-move (λ w. narrow_exchange) (fixed narrow_exchange);
  rove_wide_exchange_unvalidated = unvalidated-move (λ w. wide_exchange) (fixed wide_exchange);
  rove_wilson_balding_unvalidated = unvalidated-move (λ w. wilson_balding) (fixed wilson_balding);
  rove_root_scale_unvalidated = unvalidated-move (λ w. root_scale (tuning_in w)) (λ w b. ap root_scale (tuning-same w b));
  rove_tree_scale_unvalidated = unvalidated-move (λ w. tree_scale (tuning_in w)) (λ w b. ap tree_scale (tuning-same w b));
  rove_scale = scale-exported;
  rove_clock_rate_scale = clock-rate-exported;
  rove_birth_difference_scale = birth-difference-exported;
  rove_birth_rate_scale = birth-rate-exported;
  rove_relative_death_scale = relative-death-exported;
  rove_clock_sigma_scale = clock-sigma-exported;
  rove_branch_rate_scale = branch-rate-exported;
  rove_fbd_scale = fbd-exported;
  rove_propose_age = tip-age-exported;
}
