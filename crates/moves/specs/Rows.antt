-- Calls of the moves on tree F as rows of one statement on the definitions (`call_rows`): document 01's example of the state file, a call of each
-- move from the state 1,2,3,4, and calls that decline or are turned back. Of what each leaves, all is said. Assumes nothing.
use Rattle.std.specs.Prelude.{◌≡◌, refl, [], ◌∷◌, ℕ, pos, negsuc, Float}
use Rattle.std.specs.Float.{binary64}
use Rattle.std.specs.Float.Ieee.{of_bits, lt, le, eq, add, sub, mul, div, round}
use Rattle.words.specs.Words.{rotl}
use Rattle.answer.specs.declared.Ratio.{Ratio}
use Rattle.answer.specs.declared.Ratio.TheVariants.{Even, Counts, Lengths, Power}
use Rattle.answer.specs.declared.Refusal.{Refusal}
use Rattle.answer.specs.declared.Refusal.TheVariants as Refusals
use Rattle.answer.specs.declared.Answer.TheVariants as Answers
use Rattle.random.specs.declared.Random.{Random}
use Rattle.random.specs.Generator.{from_state, word_of, next, uniform_of, first_side}
use Rattle.random.specs.Xoshiro.{output, step, stepped}
use Rattle.random.specs.Draw.{run, pick, onward, word_from, until_from, uniform, coin, draw, ◌>>=◌, below, fair}
use Rattle.real.specs.Real as Real
use Rattle.tree.specs.Tree.{Tree, no_node, parent, height, sibling, subtree}
use Rattle.tree.specs.New.{validated, judged, scanned, scan, visit, then_adopt, adopt, joined, roots, agree, misdated, lowest}
use Rattle.edits.specs.Slots.{slot_of, owner, put, swap, rotate, set_height}
use Rattle.rules.specs.Rules as Rules
use Rattle.rules.specs.Samples.{0·0, 0·5, 1·0, 2·0, 3·0, five, F, F-at, exchanged, slid_at, grafted_at, flat, example, example_root}
use Rattle.calls.specs.Call.{called_on, given, tree_call, leaves, call_of, checked, ended}
use Rattle.calls.specs.Draws.{non_root, internal, scaler, interpolated, drawn_height, least, least_tuning}
use Rattle.moves.specs.Programs as Programs
use Rattle.moves.specs.Moves.{Move, node_height, subtree_slide, narrow_exchange, wide_exchange, wilson_balding, root_scale, tree_scale, move_call, start_call}

-- ---- what a row says

abbrev pub state : ℕ → ℕ → ℕ → ℕ → Random
state a b c d = from_state (a ∷ b ∷ c ∷ d ∷ [])

-- the generator 1,2,3,4
abbrev pub start : Random
start = state 1 2 3 4

-- m on t, with an allowance, makes of it u with the ratio r by so many draws, and leaves the generator h
abbrev pub Moves : Move → Tree → Random → ℕ → Tree → Ratio → ℕ → Random → Type 0
Moves m t g allowance u r draws h = move_call m t g allowance ≡ called_on (Answers.Moved (record { root = u.root; draws = draws; ratio = r })) h u

abbrev pub Declines : Move → Tree → Random → ℕ → ℕ → Random → Type 0
Declines m t g allowance draws h = move_call m t g allowance ≡ called_on (Answers.Declined draws) h t

abbrev pub Refuses : Move → Tree → Random → ℕ → Refusal → Type 0
Refuses m t g allowance why = move_call m t g allowance ≡ called_on (Answers.Refused why) g t

-- ---- the rows

-- generators after draws from 1,2,3,4
abbrev after_one : Random
after_one = state 7 0 0x40002 0xc000_0000_0000

abbrev after_two : Random
after_two = state 0xc000_0000_0007 0x40005 0x40005 0x1800_0000

abbrev after_five : Random
after_five = state 0x8060_9008_0c0e_0302 0x6000_180a_0302 0x8010_901c_000e_0305 0x4000_e00c_0601_0281

abbrev after_six : Random
after_six = state 0xc060_1004_1205_0281 0x70_6014_140a_0305 0xc070_3000_0a04_0007 0x6030_6800_1001_83c1

-- the height that the second draw takes from 0 to 2
abbrev low : Float
low = of_bits binary64 0x3d9c_0000_0000_0000

-- a height from 0 to 2 by the sixth
abbrev grafted : Float
grafted = of_bits binary64 0x3ff1_4d32_f159_bdc6

-- 0.75
abbrev late : Float
late = of_bits binary64 0x3fe8_0000_0000_0000

-- the largest finite height
abbrev largest : Float
largest = of_bits binary64 0x7fef_ffff_ffff_ffff

abbrev after_three : Random
after_three = state 0xc000_1804_0002 0xc000_0000_0007 0xc008_000e_0002 0x8000_a000_0000_0300

abbrev second_uniform : Float
second_uniform = of_bits binary64 0x3d8c_0000_0000_0000

abbrev third_uniform : Float
third_uniform = of_bits binary64 0x3f29_8000_0700_0000

-- another generator, and after two draws
abbrev other : Random
other = state 0x1234_5678_9abc_def0 0xfedc_ba98_7654_3210 0x0f1e_2d3c_4b5a_6978 0x8796_a5b4_c3d2_e1f0

abbrev other_two : Random
other_two = state 0x52f4_87a1_cb6d_1e38 0xe092_1f64_3d4e_3f00 0x80dd_91dd_91cc_ba98 0xe265_0731_59de_bc8a

-- one whose first draw is just over a half, and after it
abbrev upper : Random
upper = state 0x8000_0000_0000_0000 3 5 7

abbrev upper_one : Random
upper_one = state 0x8000_0000_0000_0004 0x8000_0000_0000_0006 0x8000_0000_0006_0005 0x8000_0000_0000

abbrev upper_four : Random
upper_four = state 0xc000_2000_0a0a_0201 0x500c_100e_0002 0x8000_d014_100a_0006 0x8040_8800_0e00_0341

abbrev upper_seven : Random
upper_seven = state 0xd048_300d_1b07_83e7 0xc018_9c18_0b0f_8283 0x3078_1c18_0d81_83c3 0x806c_220c_0302_23c1

abbrev other_four : Random
other_four = state 0x72c9_d6b2_2b18_aa80 0x8e59_fa0c_ecb3_a2b2 0xaed2_3ccb_bc1c_3912 0xa6e6_4459_4928_d09c

-- 3 = (0, 2), 4 = (3, 1)
abbrev other_side : Tree
other_side = five 0 2 3 1 (3 ∷ 4 ∷ 3 ∷ 4 ∷ no_node ∷ []) (0·0 ∷ 0·0 ∷ 0·0 ∷ 1·0 ∷ 2·0 ∷ []) 4

-- a height from 0.5 to 2
abbrev between : Float
between = of_bits binary64 0x3ff4_01ff_c819_bf90

-- the factor of tuning 0.75 at a uniform just over a half, and the root's height after it
abbrev rounded : Float
rounded = of_bits binary64 0x3ff0_aaaa_aaaa_cdaa

abbrev rounded_root : Float
rounded_root = of_bits binary64 0x4000_aaaa_aaaa_cdaa

-- the float next below 1e-8
abbrev under_least : Float
under_least = of_bits binary64 0x3e45_798e_e230_8c39

-- -1 and -2
abbrev minus_one : Float
minus_one = of_bits binary64 0xbff0_0000_0000_0000

abbrev minus_two : Float
minus_two = of_bits binary64 0xc000_0000_0000_0000

-- three nodes: 2 = (0, 1) at 1
abbrev three : Tree
three = record {
  pairs = no_node ∷ no_node ∷ no_node ∷ no_node ∷ 0 ∷ 1 ∷ [];
  parents = 2 ∷ 2 ∷ no_node ∷ [];
  heights = 0·0 ∷ 0·0 ∷ 1·0 ∷ [];
  root = 2;
}

-- a row is an equation on the whole of what a call leaves
pub record CallRows : Type 0 where
  -- the example of the state file: "answer=moved", "draws=1", "ratio=power,3fe0000000007800,-1"
  pub listing : Moves (root_scale 0·5) F start 9 (F-at 0·0 0·0 0·0 1·0 example_root) (Power example (negsuc 0)) 1 after_one
  -- an internal node other than the root, then its height
  pub height_drawn : Moves node_height F start 9 (F-at 0·0 0·0 0·0 low 2·0) Even 2 after_two
  -- the root is drawn twice and passed over; a height from 0.5 to 2
  pub height_again : Moves node_height (F-at 0·5 0·0 0·0 1·0 2·0) upper 9 (F-at 0·5 0·0 0·0 between 2·0) Even 4 upper_four
  -- the grandparent is drawn until it is 4, then the coin is 1
  pub narrow_drawn : Moves narrow_exchange F start 9 exchanged (Counts 1 1) 6 after_six
  -- the other side, where the coin is 0
  pub narrow_second : Moves narrow_exchange F other_two 9 other_side (Counts 1 1) 2 other_four
  -- 0, then until it is another and not the root, 2
  pub wide_drawn : Moves wide_exchange F start 9 exchanged Even 5 after_five
  -- 0, then until it is another, 2, then the height
  pub wilson_drawn : Moves wilson_balding F start 9 (grafted_at 0·0 0·0 grafted) (Lengths 2·0 2·0) 6 after_six
  -- a tuning at which the factor is rounded
  pub root_rounded : Moves (root_scale late) F upper 9 (F-at 0·0 0·0 0·0 1·0 rounded_root) (Power rounded (negsuc 0)) 1 upper_one
  -- the internal heights; k is 0 at five nodes
  pub tree_drawn : Moves (tree_scale 0·5) F start 9 (F-at 0·0 0·0 0·0 example example_root) (Power example (pos 0)) 1 after_one
  -- "a dated tip ends above its parent: the Rust keeps that tree"
  pub tip_above : Moves (tree_scale 0·5) (F-at late 0·0 0·0 1·0 2·0) start 9 (F-at late 0·0 0·0 example example_root) (Power example (pos 0)) 1 after_one
  -- up draws nothing, down draws the branch
  pub slide_up : Moves (subtree_slide 0 2·0) F start 1 (slid_at 0·0 0·0) (Counts 1 2) 0 start
  pub slide_down : Moves (subtree_slide 0 minus_two) (slid_at 0·0 0·0) start 1 F (Counts 2 1) 1 after_one
  pub slide_second : Moves (subtree_slide 0 minus_two) (slid_at 0·0 0·0) upper 1 (grafted_at 0·0 0·0 1·0) (Counts 2 1) 1 upper_one
  -- one branch still takes a draw; a slide down on its own branch takes none
  pub slide_one : Moves (subtree_slide 0 minus_two) (slid_at 1·0 0·0) start 1 (grafted_at 1·0 0·0 1·0) (Counts 1 1) 1 after_one
  pub slide_own : Moves (subtree_slide 0 minus_one) F start 1 (F-at 0·0 0·0 0·0 0·0 2·0) Even 0 start
  -- the first call of a slide: 0, and the uniforms of the second and the third draw
  pub slide-start : start_call F start 9 ≡ given (record { node = 0; first = second_uniform; second = third_uniform }) 3 after_three
  -- declined undrawn: one internal node, a node above the new height, no branch at that height
  pub height_alone : Declines node_height three start 9 0 start
  pub narrow_alone : Declines narrow_exchange three start 9 0 start
  pub slide_declined : Declines (subtree_slide 3 minus_two) F start 1 0 start
  pub slide_no_branch : Declines (subtree_slide 0 minus_two) (slid_at 1·0 1·0) start 1 0 start
  -- declined after their draws: the taller child is a tip; 0 and its parent 3; 3 under the root, onto the root; a root under its child
  pub narrow_declined : Declines narrow_exchange flat start 9 5 after_five
  pub wide_declined : Declines wide_exchange F other 9 2 other_two
  pub wilson_declined : Declines wilson_balding F other 9 2 other_two
  pub wilson_root : Declines wilson_balding F upper_four 9 3 upper_seven
  pub root_declined : Declines (root_scale 0·5) (F-at 0·0 0·0 0·0 2·0 2·0) start 9 1 after_one
  -- as many draws as it takes are enough, and one less is a 6; request S-5: "Only a 6 may turn into something else", and with 65,535 the move is the same
  pub wide_exact : Moves wide_exchange F start 5 exchanged Even 5 after_five
  pub wide_spent : Refuses wide_exchange F start 4 (Refusals.Allowance 4)
  pub wide_declined_exact : Declines wide_exchange F other 2 2 other_two
  pub wide_declined_most : Declines wide_exchange F other 65535 2 other_two
  -- 7: at P, before any draw; at the root; at the lowest node that a scale takes so far
  pub slide_infinite : Refuses (subtree_slide 0 largest) (F-at 0·0 0·0 0·0 largest largest) start 1 (Refusals.NotFinite 3)
  pub slide_infinite_most : Refuses (subtree_slide 0 largest) (F-at 0·0 0·0 0·0 largest largest) start 65535 (Refusals.NotFinite 3)
  pub root_infinite : Refuses (root_scale 0·5) (F-at 0·0 0·0 0·0 1·0 largest) upper 9 (Refusals.NotFinite 4)
  pub tree_infinite : Refuses (tree_scale 0·5) (F-at 0·0 0·0 0·0 largest largest) upper 9 (Refusals.NotFinite 3)
  -- parameters outside their limits, and at them
  pub tuning_over : Refuses (root_scale 2·0) F start 9 (Refusals.Parameter 0)
  pub tuning_over_tree : Refuses (tree_scale 2·0) F start 9 (Refusals.Parameter 0)
  pub tuning_under : Refuses (root_scale under_least) F start 9 (Refusals.Parameter 0)
  pub tuning_least : Declines (root_scale least_tuning) F start 9 1 after_one
  pub tuning_one : Moves (root_scale 1·0) F start 9 F (Power 1·0 (negsuc 0)) 1 after_one
  pub slide_root : Refuses (subtree_slide 4 1·0) F start 9 (Refusals.Parameter 0)
  pub slide_past : Refuses (subtree_slide 5 1·0) F start 9 (Refusals.Parameter 0)
  pub step_infinite : Refuses (subtree_slide 0 Real.infinity) F start 9 (Refusals.Parameter 0)
  pub no_draws : Refuses wide_exchange F start 0 (Refusals.Parameter 0)
  pub most_draws : Moves wide_exchange F start 65535 exchanged Even 5 after_five
  pub draws_over : Refuses wide_exchange F start 65536 (Refusals.Parameter 0)
  -- a tree's fault comes first
  pub tree_first : Refuses (root_scale 2·0) (F-at 0·0 0·0 3·0 1·0 2·0) start 0 (Refusals.Height 2)

-- each by computation
pub call_rows : CallRows
unfolding tree_call leaves call_of checked ended validated judged scanned scan visit then_adopt adopt joined roots subtree agree misdated lowest
    run pick onward word_from until_from uniform coin draw ◌>>=◌ below fair word_of next output step stepped rotl uniform_of first_side
    non_root internal scaler interpolated drawn_height least
    Programs.non_root_internal Programs.placing Programs.node_height Programs.slide_start Programs.slide_at Programs.subtree_slide
    Programs.grandparent Programs.narrow_under Programs.narrow_exchange Programs.apart Programs.wide_exchange Programs.hosting Programs.host Programs.onto Programs.wilson_balding Programs.root_scale Programs.tree_scale
    Rules.slide_declines Rules.narrow_declines Rules.wide_declines Rules.wilson_declines Rules.root_scale_declines
    Rules.climb Rules.crossing Rules.slide_to Rules.slid Rules.slide_ratio Rules.narrowed Rules.grand Rules.grands Rules.narrow_ratio
    Rules.new_range Rules.old_range Rules.regraft Rules.scaled_to swap rotate set_height put slot_of owner parent height sibling
    of_bits lt le eq add sub mul div round
call_rows = record {
  listing = refl;
  height_drawn = refl;
  height_again = refl;
  narrow_drawn = refl;
  narrow_second = refl;
  wide_drawn = refl;
  wilson_drawn = refl;
  root_rounded = refl;
  tree_drawn = refl;
  tip_above = refl;
  slide_up = refl;
  slide_down = refl;
  slide_second = refl;
  slide_one = refl;
  slide_own = refl;
  slide-start = refl;
  height_alone = refl;
  narrow_alone = refl;
  slide_declined = refl;
  slide_no_branch = refl;
  narrow_declined = refl;
  wide_declined = refl;
  wilson_declined = refl;
  wilson_root = refl;
  root_declined = refl;
  wide_exact = refl;
  wide_spent = refl;
  wide_declined_exact = refl;
  wide_declined_most = refl;
  slide_infinite = refl;
  slide_infinite_most = refl;
  root_infinite = refl;
  tree_infinite = refl;
  tuning_over = refl;
  tuning_over_tree = refl;
  tuning_under = refl;
  tuning_least = refl;
  tuning_one = refl;
  slide_root = refl;
  slide_past = refl;
  step_infinite = refl;
  no_draws = refl;
  most_draws = refl;
  draws_over = refl;
  tree_first = refl;
}
