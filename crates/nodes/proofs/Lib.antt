-- The laws that the proofs of nodes share: one for each way through a function.
mod NodeLaws
