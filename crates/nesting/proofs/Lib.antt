-- The laws that the functions of this crate share, and its callers.
pub mod Fits
pub mod ControlNets
pub mod BearingLaws
pub mod LevelLaws
pub mod PassingLaws
