-- The laws that the functions of this crate share.
pub mod MappedLaws
pub mod CapturePlaces
pub mod Decoding
pub mod LeftLaws
pub mod Repeating
pub mod Following
pub mod Naming
