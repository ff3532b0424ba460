-- The laws that the proofs of record share.
mod WordLaws
