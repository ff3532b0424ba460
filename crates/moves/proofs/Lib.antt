-- The theorems on the calls of the tree moves, and the laws that lead to them.
pub mod ExplainedLaws
pub mod Demands
pub mod ChainLaws
