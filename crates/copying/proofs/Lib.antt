-- The laws that the proofs of copying share: one for each way through a function.
mod TreeLaws
mod FileLaws
