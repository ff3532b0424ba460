-- The definitions that the contracts of rove_newick cite.
pub mod Exports
