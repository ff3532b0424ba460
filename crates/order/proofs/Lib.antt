-- The laws that the proofs of order share.
mod FillLaws
