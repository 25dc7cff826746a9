-- What refusals 7 to 9 are checked by, over the table that a whole file fills.
pub mod Nets
