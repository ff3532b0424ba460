-- Filing has the second pass as definitions, Passes what its code promises; CloseLaws and FilingLaws of proofs/ say what the pass fills from a
-- text that is well spelled.
pub mod Filing
pub mod Passes
pub mod CloseLaws
