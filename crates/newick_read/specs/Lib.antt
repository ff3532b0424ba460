-- Taking has the passes over what was filled, Given what the code asks of a text; HeldLaws, LimitLaws and TakingLaws say that the passes leave what the
-- definitions of newick do.
pub mod Taking
pub mod Given
pub mod HeldLaws
pub mod LimitLaws
pub mod TakingLaws
