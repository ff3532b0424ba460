-- The definitions that the contracts of real cite, and the laws of the order of floats, of ages, of products, of arithmetic, which keeps the
-- order, of floats that are not negative but may have a minus sign, of printed ages, and of the library's words for numbers.
pub mod Real
pub mod Printed
pub mod Ages
pub mod CrossLaws
pub mod OrderLaws
pub mod FieldLaws
pub mod AgeLaws
pub mod ProductLaws
pub mod MonotoneLaws
pub mod SignedLaws
pub mod PrintedLaws
pub mod NumberLaws
