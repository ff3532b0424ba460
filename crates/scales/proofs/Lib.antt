-- The laws that the proofs of scales share: one for each way through a function.
mod ScaleLaws
mod UseLaws
pub mod ScalingLaws
