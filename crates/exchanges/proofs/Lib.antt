-- The laws that the proofs of exchanges share: one for each way through a function.
mod WideLaws
mod GrandLaws
mod NarrowLaws
mod MildLaws
