-- The walk that the code makes over branches, and what it meets on a valid tree.
pub mod Walk
pub mod WalkLaws
