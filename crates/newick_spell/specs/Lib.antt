-- Spelling has the answer, and SpellingLaws what it tells a caller; Spots, Stands and Tokens have what the contracts of the pass cite.
pub mod Spelling
pub mod SpellingLaws
pub mod Spots
pub mod Stands
pub mod Tokens
