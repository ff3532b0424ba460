-- The laws that the proofs of random share: one for each way through a function.
mod UnitLaws
mod StepLaws
mod BelowLaws
mod TakenLaws
mod CallLaws
pub mod DrawLaws
pub mod BelowCallLaws
pub mod WordLaws
pub mod Rows
