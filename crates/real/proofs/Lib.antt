-- The laws that the proofs of real share: one for each way through a function.
mod BitsLaws
mod ThousandthsLaws
