-- Ages is the age table, which tips of it are at fault, and the checks of a call with one. CheckedLaws are for the calls on a tree with a table, and Rows pin
-- the rules. Which tip is named is shown in proofs/FaultLaws.
pub mod Ages
pub mod CheckedLaws
pub mod Rows
