-- The definitions that the contracts of speciation cite, and rows of them.
pub mod Yule
pub mod Rows
