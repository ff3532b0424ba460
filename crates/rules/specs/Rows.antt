-- The starred rows of document 01's "Tree F" as one statement on the definitions (`starred-rows`). Assumes nothing.
use Rattle.std.specs.Prelude.{◌≡◌, refl, Bool, true, ℕ, eqb, Float}
use Rattle.std.proofs.Math.Bool.{or-true}
use Rattle.std.specs.Float.Ieee.{of_bits, lt, le, eq, sub}
use Rattle.answer.specs.declared.Ratio.TheVariants.{Even, Counts, Lengths}
use Rattle.random.specs.Rows.{GeneratorRows}
use Rattle.random.proofs.Rows.{generator-rows}
use Rattle.tree.specs.Tree.{parent, height, sibling, subtree}
use Rattle.tree.specs.New.{new_tree, new_from, dated, scanned, joined, scan, visit, then_adopt, adopt, roots, misdated, lowest}
use Rattle.edits.specs.Slots.{slot_of, owner, put, swap, rotate, set_height}
use Rattle.rules.specs.Rules as Rules
use Rattle.rules.specs.Moves.{SubtreeSlide, NarrowExchange, WideExchange, WilsonBalding, declines}
use Rattle.rules.specs.Tests.{slide_lists, narrow_lists, wide_lists, wilson_lists}
use Rattle.rules.specs.Samples.{0·0, 0·5, 1·0, 1·5, 2·0, 3·0, F, exchanged, slid_at, grafted_at, flat, slide, narrow, wide, wilson, Row, Declined, row, declined-row}

pub record StarredRows : Type 0 where
  -- "State 1,2,3,4" and "State 0,0,0,0"
  pub generator : GeneratorRows
  -- "Narrow at 4, coin 1: 3=(2,1), 4=(3,0), counts 1,1"
  pub narrow_at_4 : Row NarrowExchange F (narrow 4 true) exchanged (Counts 1 1)
  -- "Wide 0,2 gives that tree, even"
  pub wide_0_2 : Row WideExchange F (wide 0 2) exchanged Even
  -- "Slide 0 to height 3: 3=(0,4), 4=(1,2), root 3, counts 1,2", whatever the index is
  pub slide_up : (index : ℕ) → Row SubtreeSlide F (slide 0 3·0 index) (slid_at 0·0 0·0) (Counts 1 2)
  -- "From there slide 0 to height 1, index 0: F, counts 2,1"
  pub slide_down : Row SubtreeSlide (slid_at 0·0 0·0) (slide 0 1·0 0) F (Counts 2 1)
  -- "WilsonBalding 0 onto 2 at 1.5: 3=(0,2), 4=(1,3), lengths 2,2"
  pub wilson_0_onto_2 : Row WilsonBalding F (wilson 0 2 1·5) (grafted_at 0·0 0·0 1·5) (Lengths 2·0 2·0)
  -- "With i = 2: declined", whatever j and height are, and there are such
  pub wilson_declined : (j : ℕ) (x : Float) → declines 5 WilsonBalding F (wilson 2 j x) ≡ true
  pub wilson_listed : Declined WilsonBalding F (wilson 2 0 0·5)
  -- "4=(2,3) with 3 at 0: narrow declined, the first of equals is a tip"
  pub narrow_declined : (coin : Bool) → Declined NarrowExchange flat (narrow 4 coin)

pub starred-rows : StarredRows
unfolding of_bits new_tree new_from dated scanned joined subtree scan visit then_adopt adopt roots misdated lowest
    slide_lists narrow_lists wide_lists wilson_lists Rules.slide_declines Rules.narrow_declines Rules.wide_declines Rules.wilson_declines
    Rules.climb Rules.crossing Rules.slide_to Rules.slid Rules.slide_ratio Rules.narrowed Rules.grand Rules.grands Rules.narrow_ratio
    Rules.new_range Rules.old_range Rules.regraft swap rotate set_height put slot_of owner parent height sibling lt le eq sub
starred-rows = record {
  generator = generator-rows;
  narrow_at_4 = row refl tt refl refl refl;
  wide_0_2 = row refl tt refl refl refl;
  slide_up = λ index. row refl tt refl refl refl;
  slide_down = row refl tt refl refl refl;
  wilson_0_onto_2 = row refl tt refl refl refl;
  wilson_declined = λ j x. rw (or-true (eqb j 4));
  wilson_listed = declined-row refl tt refl;
  narrow_declined = λ coin. declined-row refl tt refl;
}
