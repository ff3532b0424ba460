-- Started has the forms of the first call, Slide those of the second.
pub mod Started
pub mod Slide
