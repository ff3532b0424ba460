-- The definitions that rove's contracts cite.
pub mod Exports
