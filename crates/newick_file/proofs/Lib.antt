-- The laws that the proofs of newick_file share.
mod StoreLaws
mod ByteLaws
mod PassLaws
pub mod FilingLaws
