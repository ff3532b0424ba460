-- What the code needs of the tree that it is lent.
pub mod Given
