-- Which trees are accepted, and the laws of such a tree.
pub mod Ways
pub mod WayLaws
pub mod SubtreeLaws
pub mod DatesLaws
pub mod ShapeLaws
pub mod AcceptedLaws
pub mod NewLaws
pub mod ValidatedLaws
pub mod TipLaws
pub mod RootLaws
pub mod RefusalLaws
