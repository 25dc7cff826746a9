-- The laws that the proofs of this crate and of its callers cite.
pub mod SetLaws
pub mod WordsOnce
