-- The laws that the functions of this crate, and those that ask for cells and drivers, share.
pub mod WholeLaws
pub mod CellsOnce
