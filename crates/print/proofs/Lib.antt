-- The laws that the proofs of print share.
mod PutLaws
