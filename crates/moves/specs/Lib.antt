-- Programs says what each tree move draws, and Moves takes the seven as one; Rows are calls on tree F. Explained and Ends are definitions too: what a
-- call's program may end in, move by move, and the words of the demands. The files whose names end in Laws are theorems on these, StartLaws on a slide's first
-- call. In proofs/, Demands has the theorems on the seven moves; ExplainedLaws and ChainLaws lead to them.
pub mod Programs
pub mod Moves
pub mod Explained
pub mod Ends
pub mod EndsLaws
pub mod ScaleLaws
pub mod StartLaws
pub mod Rows
