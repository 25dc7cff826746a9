-- What the readings of the input cells say of the nets.
pub mod Judging
