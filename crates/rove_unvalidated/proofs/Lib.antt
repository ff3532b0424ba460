-- The laws that the proofs of rove_unvalidated share: one for each way through a function.
mod UnvalidatedLaws
