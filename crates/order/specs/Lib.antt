-- What the contracts of order cite.
pub mod Postorder
pub mod Filling
