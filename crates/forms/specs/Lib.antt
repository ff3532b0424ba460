pub mod Forms
pub mod FormLaws
pub mod Given
