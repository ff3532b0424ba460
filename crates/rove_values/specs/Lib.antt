-- The definitions that the contracts of rove_values cite.
pub mod Exports
