-- The laws that the proofs of notation share.
mod SignLaws
mod PutLaws
mod CountLaws
