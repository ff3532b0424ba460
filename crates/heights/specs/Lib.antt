-- Given has the forms of the code; ProductLaws say when a height times a factor is finite.
pub mod Given
pub mod ProductLaws
