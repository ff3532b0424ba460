pub mod Lines
pub mod StateFile
pub mod EachLaws
pub mod SlotLaws
pub mod Given
pub mod Rows
