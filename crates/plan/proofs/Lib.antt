-- The laws of codes and of steps that the functions of this crate share.
pub mod WidthLaws
pub mod Patterns
pub mod StepLaws
pub mod RoundLaws
pub mod MixLaws
pub mod PlanningLaws
