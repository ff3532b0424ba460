pub mod Text
pub mod Rules
pub mod Places
pub mod DigitLaws
pub mod ReadBackLaws
pub mod ExactLaws
