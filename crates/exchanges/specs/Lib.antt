-- Given has the forms in which the code of the exchanges hands on what the definitions say.
pub mod Given
