-- The laws that the proofs of clades share: one for each way through a function.
mod WeighLaws
mod FindLaws
mod CallLaws
