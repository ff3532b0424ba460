-- Initialize and TipAge are the calls on a tree with a table of ages, and Rows are such calls on tree F; Given has the forms of the code. AgeEnds has
-- definitions too, the words of the demands, and so has Steps, calls of tree moves and of TipAge one after the other. AgeDemands has the theorems on the
-- calls of TipAge, StartValidLaws that on `initialize` and StepsLaws that on such calls, FaultLaws the tip that both calls name; the other files whose names
-- end in Laws lead to them.
pub mod Initialize
pub mod TipAge
pub mod Given
pub mod Rows
pub mod AgeEnds
pub mod AgeExplainedLaws
pub mod AgeCheckLaws
pub mod AgeValidLaws
pub mod StartValidLaws
pub mod AgeDemands
pub mod FaultLaws
pub mod Steps
pub mod StepsLaws
