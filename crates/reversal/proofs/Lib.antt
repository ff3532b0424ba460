-- The theorem of demand 3, and the laws that lead to it and rest on what it asks.
pub mod NarrowLaws
pub mod SlideUpLaws
pub mod SlideDownLaws
pub mod SlideLaws
pub mod Reversal
