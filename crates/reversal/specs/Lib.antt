-- Demand 3: Reversed says what it asks. Back asks the same of one choice on a valid tree; the rest are laws. In proofs/, Reversal shows that it is so, and that
-- every reversible move keeps a tree valid; NarrowLaws, SlideUpLaws, SlideDownLaws and SlideLaws lead to it.
pub mod Reversed
pub mod Back
pub mod FailedLaws
pub mod IntervalLaws
pub mod FamilyLaws
pub mod DatedLaws
pub mod NodeHeightLaws
pub mod ExchangeLaws
pub mod WideLaws
pub mod GraftLaws
pub mod GraftValidLaws
pub mod WilsonLaws
pub mod BranchLaws
pub mod SlideWayLaws
pub mod SlideValidLaws
pub mod SlideHeightLaws
pub mod SlideOntoLaws
