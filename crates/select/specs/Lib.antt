-- What a pass has turned on, as sets of cells and nets, and the positions that it need look at.
pub mod Turns
pub mod Highest
