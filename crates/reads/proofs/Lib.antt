-- The laws that the proofs of reads share: one for each way through a function.
mod ReadLaws
