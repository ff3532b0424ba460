-- The definitions that the contracts of random cite, and the laws of these definitions.
pub mod SplitMix
pub mod Xoshiro
pub mod Generator
pub mod Draw
pub mod BelowCall
pub mod Lawful
pub mod SumLaws
pub mod UniformLaws
pub mod SupplyLaws
pub mod Rows
