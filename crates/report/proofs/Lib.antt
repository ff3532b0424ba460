-- The laws that the proofs of report share.
mod PutLaws
mod CountLaws
