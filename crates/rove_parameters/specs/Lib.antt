-- The definitions that the contracts of rove_parameters cite, and the law that lets TipAge's allowance be read as its word.
pub mod Exports
pub mod AllowanceLaws
