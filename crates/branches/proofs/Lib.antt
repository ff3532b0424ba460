-- The laws that the proofs of branches share: one for each way through a function.
mod CrossingLaws
mod ClimbLaws
