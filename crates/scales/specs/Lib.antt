-- Scales has the definitions that the contracts of scales cite, Given the forms of the code; SettledLaws serve the code of all scales of parameters.
-- Rows are calls by the definitions.
pub mod Scales
pub mod Given
pub mod SettledLaws
pub mod Scalings
pub mod Rows
