-- A row in a lent buffer, and what it asks of the buffer and of the set of cells.
pub mod Room
pub mod Bits
