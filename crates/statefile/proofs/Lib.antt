pub mod HeadLaws
pub mod FillLaws
pub mod FileLaws
