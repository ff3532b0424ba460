-- The laws that the proofs of fields share: one for each way through a function.
mod FieldLaws
pub mod MadeLaws
