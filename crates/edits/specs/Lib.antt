-- The edits of a tree, what they need of lent slices, and their laws.
pub mod Slots
pub mod Needs
pub mod SlotLaws
pub mod HeightLaws
pub mod TurnLaws
pub mod NeedsLaws
