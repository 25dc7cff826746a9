-- The laws of these notions; each file is named after the definitions that it is about.
pub mod BoolLaws
pub mod TestLaws
pub mod CountingLaws
pub mod BoundLaws
pub mod OneToOne
pub mod DigitLaws
pub mod WordLaws
pub mod ListLaws
pub mod WeaveLaws
