-- The laws that the functions of this crate share.
pub mod ControlChecks
pub mod PairLaws
pub mod Order
