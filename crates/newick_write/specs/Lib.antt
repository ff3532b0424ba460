-- What the contracts inside newick_write say.
pub mod Given
