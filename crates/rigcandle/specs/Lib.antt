-- What the questions' inner functions may assume.
pub mod Asking
