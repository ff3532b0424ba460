-- The laws that the proofs of ages share: one for each way through a function.
mod TableLaws
pub mod FaultLaws
