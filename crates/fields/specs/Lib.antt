-- The definitions that the contracts of fields cite, what their answers come from, and rows of them.
pub mod Fields
pub mod Rows
