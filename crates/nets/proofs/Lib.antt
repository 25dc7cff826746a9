-- The laws that the functions of this crate share.
pub mod Fits
pub mod Clashing
pub mod NetChecks
