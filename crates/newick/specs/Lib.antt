-- The definitions that the contracts of the writer and the reader cite (Newick, Numbering, Reading, Copies), rows of them (Rows), and the theorems on copies
-- (CopyLaws) with the laws that they come from.
pub mod Newick
pub mod Numbering
pub mod Reading
pub mod Copies
pub mod DecimalLaws
pub mod RunLaws
pub mod PlaceLaws
pub mod NumberingLaws
pub mod NamedLaws
pub mod DatedLaws
pub mod ReadingLaws
pub mod TreeLaws
pub mod ClosingLaws
pub mod AgesLaws
pub mod YoungLaws
pub mod CopyLaws
pub mod Rows
