-- The laws that the functions of this crate share.
pub mod Marking
pub mod Passing
pub mod Largest
pub mod Highest
pub mod Ordering
pub mod SelectOnce
