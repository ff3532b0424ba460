-- Call says how a call goes, Change how one on parameters does, Draws what several moves draw, Chosen what a uniform was taken for, Given has the forms of the
-- code, and Harmless what holds of an unvalidated call. RedrawLaws are for the code of the moves, LeastLaws, YieldLaws and StepLaws for their theorems too;
-- FactorLaws bound the factor of a scale. In proofs/, RunLaws holds of every call, TreeCallLaws and LeavesLaws of those on a tree, ChangeLaws of those on
-- parameters; EntryLaws, HarmlessLaws and HeightLaws are for the code of the moves.
pub mod Call
pub mod Change
pub mod Draws
pub mod Chosen
pub mod Given
pub mod Harmless
pub mod RedrawLaws
pub mod LeastLaws
pub mod YieldLaws
pub mod StepLaws
pub mod FactorLaws
