-- What refusals 10 and 11 are checked by, over the table that a whole file fills.
pub mod Controls
