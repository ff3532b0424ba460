-- The definitions that record's contracts cite, the law that lets an allowance be read as its word, and those of words that are a record.
pub mod AllowanceLaws
pub mod Record
pub mod RoomLaws
