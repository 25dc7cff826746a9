-- What a cell reads, in one row and in all.
pub mod Readings
