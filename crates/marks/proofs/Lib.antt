-- The laws that the proofs of marks share: one for each way through a function.
mod MarkLaws
