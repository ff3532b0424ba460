-- Notation has the texts, NotationLaws how one is written part after part, LengthLaws how long each is.
pub mod Notation
pub mod NotationLaws
pub mod LengthLaws
