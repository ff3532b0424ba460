-- The definitions that the contracts of rates cite, and rows of them.
pub mod Clock
pub mod Rows
