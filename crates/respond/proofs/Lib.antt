-- The laws that the proofs of respond share: one for each way through a function.
mod StateLaws
mod FileLaws
