-- The laws that the proofs of dating share: one for each way through a function.
mod InitializeLaws
mod StartLaws
mod TipAgeLaws
