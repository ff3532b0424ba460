pub mod Replay
pub mod Given
pub mod ComparedLaws
