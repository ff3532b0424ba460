-- The rules of the moves: Rules goes along document 01's lines, Moves takes the five reversible moves as one, Tests decides what is listed. Rows
-- and OwnRows are rows on Samples; TestLaws are laws.
pub mod Rules
pub mod Moves
pub mod Tests
pub mod TestLaws
pub mod Samples
pub mod Rows
pub mod OwnRows
