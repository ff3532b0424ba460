pub mod Respond
pub mod Given
