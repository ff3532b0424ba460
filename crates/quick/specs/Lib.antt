-- The test of a tree in one pass (Quick); the rest shows that it lets only valid trees pass (QuickLaws).
pub mod Quick
pub mod InductionLaws
pub mod PassedLaws
pub mod QuickLaws
