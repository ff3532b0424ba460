-- The laws that the proofs of clocks share: one for each way through a function.
mod ClockLaws
pub mod MadeLaws
