-- Clocks has the definitions that the contracts of clocks cite, Given the form of the code; Rows are calls by the definitions.
pub mod Clocks
pub mod Given
pub mod Rows
