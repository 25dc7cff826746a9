-- What a reader of records may assume.
pub mod Whole
