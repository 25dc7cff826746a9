-- The laws of readings and marks, for the functions of this crate and for its callers.
pub mod InputLaws
pub mod TestedLaws
pub mod MarkedLaws
pub mod MarksByReadings
pub mod MarksOnce
