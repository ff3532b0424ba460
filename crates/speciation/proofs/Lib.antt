-- The laws that the proofs of speciation share: one for each way through a function.
mod YuleLaws
