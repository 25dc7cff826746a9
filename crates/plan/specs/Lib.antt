-- The base vectors of a plan, and a board's plan.
pub mod Bounds
pub mod Plans
pub mod Planning
