-- The definitions that the contracts of copying cite.
pub mod Copying
pub mod Given
