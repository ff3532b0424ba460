-- The laws that the proofs of tree share: one for each way through a function.
mod ParentLaws
mod RootLaws
mod WalkLaws
mod SliceLaws
mod CallLaws
