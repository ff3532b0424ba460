-- The parts of WilsonBalding's rule that its code takes one by one.
pub mod Given
