-- The laws that the proofs of calls share: one for each way through a function.
mod DrawnLaws
pub mod RunLaws
pub mod TreeCallLaws
pub mod LeavesLaws
pub mod ChangeLaws
pub mod EntryLaws
pub mod HarmlessLaws
pub mod HeightLaws
