-- The laws that the proofs of quick share: one for each way through a function.
mod TestLaws
mod CallLaws
