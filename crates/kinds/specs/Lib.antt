-- The definition that the contracts of kinds cite.
pub mod Table
