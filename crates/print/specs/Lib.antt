-- Writing says what it is to write a text into a slice; WritingLaws and NumberLaws hold of that and of the texts of numbers.
pub mod Writing
pub mod WritingLaws
pub mod NumberLaws
