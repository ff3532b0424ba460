-- The definitions that set out document 01's numbers and values for each answer.
pub mod Answers
