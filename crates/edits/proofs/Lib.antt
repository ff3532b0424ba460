-- The laws that the proofs of edits share: one for each way through a function.
mod SlotOfLaws
mod PutLaws
mod SequenceLaws
