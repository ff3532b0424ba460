-- The laws of what a caller finds of the generator that it lent.
pub mod LentLaws
