-- The laws that the proofs of statefile_text share.
mod PutLaws
mod RoomLaws
pub mod ReadBackLaws
pub mod WritableLaws
