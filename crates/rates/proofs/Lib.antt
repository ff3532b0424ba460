-- The laws that the proofs of rates share: one for each way through a function.
mod ClockLaws
