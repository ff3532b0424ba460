-- Rows of our own, which hold the definitions fast where the starred rows and demand 3 leave room: what is made and what is declined (`own-rows`),
-- what is not listed (`unlisted-rows`), and the scales and tip ages (`scale-rows`). Assumes nothing.
use Rattle.std.specs.Prelude.{◌≡◌, refl, Bool, true, false, [], ◌∷◌, ℕ, T, pos, negsuc, Float}
use Rattle.std.specs.Float.Ieee.{of_bits, lt, le, eq, mul, sub}
use Rattle.answer.specs.declared.Ratio.TheVariants.{Even, Counts, Lengths, Power}
use Rattle.real.specs.Real as Real
use Rattle.tree.specs.Tree.{Tree, no_node, parent, height, sibling, subtree}
use Rattle.tree.specs.New.{new_tree, new_from, dated, scanned, joined, scan, visit, then_adopt, adopt, roots, misdated, lowest}
use Rattle.edits.specs.Slots.{slot_of, owner, put, swap, rotate, set_height}
use Rattle.rules.specs.Rules as Rules
use Rattle.rules.specs.Moves.{NodeHeight, SubtreeSlide, NarrowExchange, WideExchange, WilsonBalding}
use Rattle.rules.specs.Tests.{node_height_lists, slide_lists, narrow_lists, wide_lists, wilson_lists, tip_age_lists}
use Rattle.rules.specs.Samples.{0·0, −0·0, 0·5, 1·0, 1·5, 2·0, 2·5, 3·0, 5·0, five, F-at, F, slid_at, grafted_at, paired, unpaired, comb, raised, crossed, outer, sunk, example, example_root, height_of, slide, narrow, wide, wilson, Row, Declined, Unlisted, row, declined-row, unlisted-row}

-- ---- what is made, and what is declined

pub record OwnRows : Type 0 where
  -- both ends of the interval, and the sign of a zero is kept
  pub height_high : Row NodeHeight F (height_of 3 2·0) (F-at 0·0 0·0 0·0 2·0 2·0) Even
  pub height_low : Row NodeHeight F (height_of 3 0·0) (F-at 0·0 0·0 0·0 0·0 2·0) Even
  pub height_minus : Row NodeHeight F (height_of 3 −0·0) (F-at 0·0 0·0 0·0 −0·0 2·0) Even
  -- "one internal node", of three
  pub height_one_internal : Rules.node_height_declines 3 ≡ true
  pub narrow_one_internal : (t : Tree) (g : ℕ) → Rules.narrow_declines 3 t g ≡ true
  -- the second side
  pub narrow_second : Row NarrowExchange F (narrow 4 false) (five 0 2 3 1 (3 ∷ 4 ∷ 3 ∷ 4 ∷ no_node ∷ []) (0·0 ∷ 0·0 ∷ 0·0 ∷ 1·0 ∷ 2·0 ∷ []) 4) (Counts 1 1)
  -- one grandparent before, two after
  pub narrow_counts : Row NarrowExchange paired (narrow 6 true) unpaired (Counts 1 2)
  -- both ends of the interval, and different ranges
  pub wilson_high : Row WilsonBalding (F-at 0·0 0·0 0·5 1·0 2·0) (wilson 0 2 2·0) (grafted_at 0·0 0·5 2·0) (Lengths 1·5 2·0)
  pub wilson_low : Row WilsonBalding (F-at 0·0 0·0 0·5 1·0 2·0) (wilson 0 2 0·5) (grafted_at 0·0 0·5 0·5) (Lengths 1·5 2·0)
  -- different upper ends of the ranges
  pub wilson_ends : Row WilsonBalding comb (wilson 0 3 2·5) crossed (Lengths 3·0 2·0)
  -- an internal i, above j and the sibling
  pub wilson_internal : Row WilsonBalding comb (wilson 4 3 2·0) unpaired (Lengths 2·0 2·0)
  -- an internal i
  pub wide_internal : Row WideExchange paired (wide 4 2) unpaired Even
  -- a branch whose lower end is at the height does not count
  pub slide_level : Row SubtreeSlide (slid_at 1·0 0·0) (slide 0 1·0 0) (grafted_at 1·0 0·0 1·0) (Counts 1 1)
  -- the second branch, left first
  pub slide_second : Row SubtreeSlide (slid_at 0·0 0·0) (slide 0 1·0 1) (grafted_at 0·0 0·0 1·0) (Counts 2 1)
  -- branches at different depths, left first, one of them with its upper end at the height
  pub slide_deep : Row SubtreeSlide outer (slide 0 1·0 0) sunk (Counts 3 1)
  -- onto a branch below the root's
  pub slide_middle : Row SubtreeSlide comb (slide 0 2·5 0) raised (Counts 1 2)
  -- branches that were level with the old height are not listed for the way back
  pub slide_none_back : Row SubtreeSlide (F-at 0·0 1·0 1·0 1·0 2·0) (slide 0 3·0 0) (slid_at 1·0 1·0) (Counts 1 0)
  -- up to the parent's height, and down to the sibling's, tip or not: only the height changes
  pub slide_to_parent : Row SubtreeSlide F (slide 0 2·0 0) (F-at 0·0 0·0 0·0 2·0 2·0) Even
  pub slide_to_sibling : Row SubtreeSlide F (slide 0 0·0 0) (F-at 0·0 0·0 0·0 0·0 2·0) Even
  pub slide_to_inner : Row SubtreeSlide (slid_at 0·0 0·0) (slide 0 2·0 0) (five 0 4 1 2 (3 ∷ 4 ∷ 4 ∷ no_node ∷ 3 ∷ []) (0·0 ∷ 0·0 ∷ 0·0 ∷ 2·0 ∷ 2·0 ∷ []) 3) Even
  -- a node above the new height, and no branch under the sibling
  pub slide_under_node : Declined SubtreeSlide (F-at 0·5 0·0 0·0 1·0 2·0) (slide 0 0·0 0)
  pub slide_no_branch : Declined SubtreeSlide (slid_at 1·0 1·0) (slide 0 1·0 0)
  -- h(j) = h(p), h(i) = h(q), and p = q
  pub wide_level_j : Declined WideExchange (F-at 0·0 0·0 1·0 1·0 2·0) (wide 0 2)
  pub wide_level_i : Declined WideExchange (F-at 0·0 0·0 1·0 1·0 2·0) (wide 2 0)
  pub wide_siblings : Declined WideExchange F (wide 0 1)
  -- j is the root, whatever the height is, the sibling, and p
  pub wilson_onto_root : (x : Float) → Declined WilsonBalding F (wilson 0 4 x)
  pub wilson_onto_sibling : Declined WilsonBalding F (wilson 0 1 0·5)
  pub wilson_onto_parent : Declined WilsonBalding F (wilson 0 3 1·5)
  -- a new range of zero, and an old one
  pub wilson_no_new_range : Declined WilsonBalding (F-at 0·0 0·0 2·0 1·0 2·0) (wilson 0 2 2·0)
  pub wilson_no_old_range : Declined WilsonBalding (F-at 0·0 2·0 0·0 2·0 2·0) (wilson 0 2 1·0)

-- ---- what is not listed

pub record UnlistedRows : Type 0 where
  -- a tip, the root, and heights outside the interval
  pub height_of_tip : Unlisted NodeHeight F (height_of 2 1·0)
  pub height_of_root : Unlisted NodeHeight F (height_of 4 3·0)
  pub height_above : Unlisted NodeHeight F (height_of 3 2·5)
  pub height_below : Unlisted NodeHeight (F-at 0·5 0·0 0·0 1·0 2·0) (height_of 3 0·0)
  -- the root, a height that is not finite, and an index past the branches
  pub slide_root : Unlisted SubtreeSlide F (slide 4 3·0 0)
  pub slide_infinite : Unlisted SubtreeSlide F (slide 0 Real.infinity 0)
  pub slide_past : Unlisted SubtreeSlide (slid_at 0·0 0·0) (slide 0 1·0 2)
  -- an internal node with two tips, and a tip
  pub narrow_of_tips : (coin : Bool) → Unlisted NarrowExchange F (narrow 3 coin)
  pub narrow_of_tip : (coin : Bool) → Unlisted NarrowExchange F (narrow 2 coin)
  -- one node twice, and the root on either side
  pub wide_same : Unlisted WideExchange F (wide 0 0)
  pub wide_root_i : Unlisted WideExchange F (wide 4 0)
  pub wide_root_j : Unlisted WideExchange F (wide 0 4)
  -- i is the root; j is i; j's parent is level with i; and heights outside the interval
  pub wilson_root : Unlisted WilsonBalding F (wilson 4 0 1·0)
  pub wilson_same : Unlisted WilsonBalding F (wilson 0 0 1·0)
  pub wilson_level : Unlisted WilsonBalding (F-at 0·0 0·0 1·0 1·0 2·0) (wilson 2 0 1·0)
  pub wilson_above : Unlisted WilsonBalding F (wilson 0 2 2·5)
  pub wilson_below : Unlisted WilsonBalding (F-at 0·0 0·0 0·5 1·0 2·0) (wilson 0 2 0·0)

-- ---- scales and tip ages

pub record ScaleRows : Type 0 where
  -- the example of "Added by design": the root scaled, "power,3fe0000000007800,-1"
  pub root_example : Rules.root_scaled F example ≡ F-at 0·0 0·0 0·0 1·0 example_root
  pub root_admitted : Rules.root_scale_declines F example ≡ false
  pub root_ratio : Rules.root_scale_ratio example ≡ Power example (negsuc 0)
  -- to a child's height, and under it
  pub root_level : Rules.root_scale_declines F 0·5 ≡ false
  pub root_under_first : Rules.root_scale_declines (F-at 0·0 0·0 0·0 1·5 2·0) 0·5 ≡ true
  pub root_under_second : Rules.root_scale_declines (F-at 0·0 0·0 1·5 1·0 2·0) 0·5 ≡ true
  -- the internal heights and no others; "internal nodes − 2" of five, of three and of seven nodes
  pub tree-scaled : Rules.tree_scaled 5 (F-at 0·0 0·0 0·5 1·0 2·0) 2·5 ≡ F-at 0·0 0·0 0·5 2·5 5·0
  pub tree_ratio_five : Rules.tree_scale_ratio 5 0·5 ≡ Power 0·5 (pos 0)
  pub tree_ratio_three : Rules.tree_scale_ratio 3 0·5 ≡ Power 0·5 (negsuc 0)
  pub tree_ratio_seven : Rules.tree_scale_ratio 7 0·5 ≡ Power 0·5 (pos 1)
  -- tip 2 from 0.5 to its parent's height 2 or to its greatest age, ends included
  pub tip_low : T (tip_age_lists 5 F 2 0·5 3·0 0·5)
  pub tip_high : T (tip_age_lists 5 F 2 0·5 3·0 2·0)
  pub tip_greatest : T (tip_age_lists 5 F 2 0·5 1·5 1·5)
  pub tip_over_greatest : tip_age_lists 5 F 2 0·5 1·5 2·0 ≡ false
  pub tip_over_parent : tip_age_lists 5 F 2 0·5 3·0 2·5 ≡ false
  pub tip_under_least : tip_age_lists 5 F 2 0·5 3·0 0·0 ≡ false
  pub tip_not_inner : tip_age_lists 5 F 3 0·0 3·0 1·0 ≡ false
  pub tip-moved : Rules.tip_moved F 2 1·5 ≡ F-at 0·0 0·0 1·5 1·0 2·0
  pub tip_even : Rules.tip_age_ratio ≡ Even
  -- an interval, one without a length, and one that would end at the parent before it begins
  pub tip_admitted : Rules.tip_age_declines F 2 0·5 1·5 ≡ false
  pub tip_fixed : Rules.tip_age_declines F 2 1·5 1·5 ≡ true
  pub tip_over : Rules.tip_age_declines F 2 2·5 3·0 ≡ true

-- ---- shown

pub own-rows : OwnRows
unfolding of_bits new_tree new_from dated scanned joined subtree scan visit then_adopt adopt roots misdated lowest
    node_height_lists slide_lists narrow_lists wide_lists wilson_lists
    Rules.slide_declines Rules.narrow_declines Rules.wide_declines Rules.wilson_declines
    Rules.climb Rules.crossing Rules.slide_to Rules.slid Rules.slide_ratio Rules.narrowed Rules.grand Rules.grands Rules.narrow_ratio
    Rules.new_range Rules.old_range Rules.regraft swap rotate set_height put slot_of owner parent height sibling lt le eq sub
own-rows = record {
  height_high = row refl tt refl refl refl;
  height_low = row refl tt refl refl refl;
  height_minus = row refl tt refl refl refl;
  height_one_internal = refl;
  narrow_one_internal = λ t g. refl;
  narrow_second = row refl tt refl refl refl;
  narrow_counts = row refl tt refl refl refl;
  wilson_ends = row refl tt refl refl refl;
  wilson_internal = row refl tt refl refl refl;
  wide_internal = row refl tt refl refl refl;
  wilson_high = row refl tt refl refl refl;
  wilson_low = row refl tt refl refl refl;
  slide_level = row refl tt refl refl refl;
  slide_second = row refl tt refl refl refl;
  slide_deep = row refl tt refl refl refl;
  slide_middle = row refl tt refl refl refl;
  slide_none_back = row refl tt refl refl refl;
  slide_to_parent = row refl tt refl refl refl;
  slide_to_sibling = row refl tt refl refl refl;
  slide_to_inner = row refl tt refl refl refl;
  slide_under_node = declined-row refl tt refl;
  slide_no_branch = declined-row refl tt refl;
  wide_level_j = declined-row refl tt refl;
  wide_level_i = declined-row refl tt refl;
  wide_siblings = declined-row refl tt refl;
  wilson_onto_root = λ x. declined-row refl tt refl;
  wilson_onto_sibling = declined-row refl tt refl;
  wilson_onto_parent = declined-row refl tt refl;
  wilson_no_new_range = declined-row refl tt refl;
  wilson_no_old_range = declined-row refl tt refl;
}

pub unlisted-rows : UnlistedRows
unfolding of_bits new_tree new_from dated scanned joined subtree scan visit then_adopt adopt roots misdated lowest
    node_height_lists slide_lists narrow_lists wide_lists wilson_lists Rules.slide_declines Rules.crossing Rules.grand parent height sibling lt le
unlisted-rows = record {
  height_of_tip = unlisted-row refl refl;
  height_of_root = unlisted-row refl refl;
  height_above = unlisted-row refl refl;
  height_below = unlisted-row refl refl;
  slide_root = unlisted-row refl refl;
  slide_infinite = unlisted-row refl refl;
  slide_past = unlisted-row refl refl;
  narrow_of_tips = λ coin. unlisted-row refl refl;
  narrow_of_tip = λ coin. unlisted-row refl refl;
  wide_same = unlisted-row refl refl;
  wide_root_i = unlisted-row refl refl;
  wide_root_j = unlisted-row refl refl;
  wilson_root = unlisted-row refl refl;
  wilson_same = unlisted-row refl refl;
  wilson_level = unlisted-row refl refl;
  wilson_above = unlisted-row refl refl;
  wilson_below = unlisted-row refl refl;
}

pub scale-rows : ScaleRows
unfolding of_bits tip_age_lists Rules.root_scale_declines Rules.scaled_to Rules.tip_age_declines set_height parent height lt le mul
scale-rows = record {
  root_example = refl;
  root_admitted = refl;
  root_ratio = refl;
  root_level = refl;
  root_under_first = refl;
  root_under_second = refl;
  tree-scaled = refl;
  tree_ratio_five = refl;
  tree_ratio_three = refl;
  tree_ratio_seven = refl;
  tip_low = tt;
  tip_high = tt;
  tip_greatest = tt;
  tip_over_greatest = refl;
  tip_over_parent = refl;
  tip_under_least = refl;
  tip_not_inner = refl;
  tip-moved = refl;
  tip_even = refl;
  tip_admitted = refl;
  tip_fixed = refl;
  tip_over = refl;
}
