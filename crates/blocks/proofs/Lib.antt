-- The laws that the proofs of this crate share.
pub mod SumLaws
pub mod ZeroLaws
pub mod Lengths
pub mod ReadingLaws
pub mod Heading
pub mod Shaping
pub mod BlocksOnce
