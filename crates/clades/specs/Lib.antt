-- What the contracts of clades cite, and the laws of sets of tips.
pub mod Clades
pub mod Counting
pub mod SumLaws
pub mod WeightLaws
pub mod CladeLaws
pub mod StemLaws
pub mod Rows
