-- The definitions that the contracts of process cite, and rows of them.
pub mod Process
pub mod Rows
