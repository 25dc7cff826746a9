-- The laws of a row in a buffer, for the functions of this crate and for its callers.
pub mod PlacedLaws
pub mod BitLaws
pub mod GroupRows
