-- The laws that the proofs of newick_read share.
mod NodeLaws
mod SliceLaws
mod CallLaws
