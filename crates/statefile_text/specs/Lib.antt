-- StateText has the text of a state and which states a file can hold; LengthLaws say how long the parts are; Rows are some texts. ReadBackLaws and WritableLaws
-- of proofs/ have the theorems on texts and states, from the laws of reading in ReadingLaws.
pub mod StateText
pub mod LengthLaws
pub mod ReadingLaws
pub mod Rows
