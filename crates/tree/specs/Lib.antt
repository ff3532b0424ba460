-- What a tree is (Tree), which trees are accepted (New) and which are valid (Valid); Given is what the code's internal contracts use, Bounded tests the
-- first numbers. The rest are laws.
pub mod Tree
pub mod New
pub mod Valid
pub mod Given
pub mod Bounded
pub mod PlaceLaws
pub mod SizeLaws
pub mod ListLaws
pub mod ScanLaws
pub mod LowestLaws
pub mod BoundedLaws
