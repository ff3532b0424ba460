-- The definitions that the contracts of record_parameters cite.
pub mod Parameters
pub mod Answers
