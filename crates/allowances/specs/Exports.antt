-- Request S-5 of every exported function that has an allowance, by its C name: with a larger one in word 5 it leaves the same but for that word. Definitions only.
-- Assumes nothing.
use Rattle.std.specs.Prelude.{List, ℕ, Float}
use Rattle.tree.specs.New.{Accepted}
use Rattle.moves.specs.Moves.{Move, node_height, subtree_slide, narrow_exchange, wide_exchange, wilson_balding, root_scale, tree_scale}
use Rattle.record.specs.Record.{node_in, tuning_in, Written}
use Rattle.rove.specs.Exports.{Left, left, tree_in, exported, start_exported, below_exported}
use Rattle.rove_unvalidated.specs.Unvalidated.{UnvalidatedExport, unvalidated_start_exported}
use Rattle.rove_parameters.specs.Exports.{Lent, lent, scale_exported, clock_rate_exported, birth_difference_exported, birth_rate_exported, relative_death_exported, clock_sigma_exported, branch_rate_scale_exported, fbd_exported, tip_age_exported}
use Rattle.allowances.specs.Lasting.{LastingOn, written_number, written_with}

-- ---- by what a function leaves

-- the words alone
abbrev pub LastingWords : (List ℕ → Written) → Type 0
LastingWords function = (words : List ℕ) → LastingOn written_number written_with function words

-- a tree's slices beside them
abbrev pub left_with : ℕ → Left → Left
left_with b l = left (written_with b l.written) l.pairs l.parents l.heights

abbrev pub LastingLeft : (List ℕ → Left) → List ℕ → Type 0
LastingLeft function words = LastingOn (λ l. written_number l.written) left_with function words

-- a slice of floats beside them
abbrev pub lent_with : ℕ → Lent → Lent
lent_with b l = lent (written_with b l.written) l.slice

abbrev pub LastingLent : (List ℕ → Lent) → Type 0
LastingLent function = (words : List ℕ) → LastingOn (λ l. written_number l.written) lent_with function words

-- ---- a move, with the parameters that its function finds in the record

abbrev pub LastingMove : (List ℕ → Move) → Type 0
LastingMove move = (pairs parents : List ℕ) (heights : List Float) (words : List ℕ) → LastingLeft (λ w. exported (move w) pairs parents heights w) words

-- what meets the contract of the unvalidated function, on an accepted tree
abbrev pub LastingUnvalidated : (List ℕ → Move) → Type 0
LastingUnvalidated move = (pairs parents : List ℕ) (heights : List Float) (words : List ℕ) → Accepted (tree_in pairs parents heights words)
    → (function : List ℕ → Left) → ((w : List ℕ) → UnvalidatedExport (move w) pairs parents heights w (function w)) → LastingLeft function words

-- ---- every function

pub record LastingExports : Type 0 where
  pub rove_below : LastingWords below_exported
  pub rove_slide_start : (pairs parents : List ℕ) (heights : List Float) → LastingWords (start_exported pairs parents heights)
  pub rove_node_height : LastingMove (λ w. node_height)
  pub rove_subtree_slide : LastingMove (λ w. subtree_slide (node_in w) (tuning_in w))
  pub rove_narrow_exchange : LastingMove (λ w. narrow_exchange)
  pub rove_wide_exchange : LastingMove (λ w. wide_exchange)
  pub rove_wilson_balding : LastingMove (λ w. wilson_balding)
  pub rove_root_scale : LastingMove (λ w. root_scale (tuning_in w))
  pub rove_tree_scale : LastingMove (λ w. tree_scale (tuning_in w))
  pub rove_slide_start_unvalidated : (pairs parents : List ℕ) (heights : List Float) → LastingWords (unvalidated_start_exported pairs parents heights)
  pub rove_node_height_unvalidated : LastingUnvalidated (λ w. node_height)
  pub rove_subtree_slide_unvalidated : LastingUnvalidated (λ w. subtree_slide (node_in w) (tuning_in w))
  pub rove_narrow_exchange_unvalidated : LastingUnvalidated (λ w. narrow_exchange)
  pub rove_wide_exchange_unvalidated : LastingUnvalidated (λ w. wide_exchange)
  pub rove_wilson_balding_unvalidated : LastingUnvalidated (λ w. wilson_balding)
  pub rove_root_scale_unvalidated : LastingUnvalidated (λ w. root_scale (tuning_in w))
  pub rove_tree_scale_unvalidated : LastingUnvalidated (λ w. tree_scale (tuning_in w))
  pub rove_scale : LastingWords scale_exported
  pub rove_clock_rate_scale : LastingWords clock_rate_exported
  pub rove_birth_difference_scale : LastingWords birth_difference_exported
  pub rove_birth_rate_scale : LastingWords birth_rate_exported
  pub rove_relative_death_scale : LastingWords relative_death_exported
  pub rove_clock_sigma_scale : (rates : List Float) → LastingWords (clock_sigma_exported rates)
  pub rove_branch_rate_scale : (rates : List Float) → LastingLent (branch_rate_scale_exported rates)
  pub rove_fbd_scale : LastingWords fbd_exported
  pub rove_propose_age : (pairs parents : List ℕ) (heights minima maxima : List Float) → LastingLent (tip_age_exported pairs parents heights minima maxima)
