-- The lent table of a board: chains, numbers of drivers, and the sets that walks along them gather.
pub mod Table
pub mod Chains
pub mod Counts
pub mod Filling
pub mod Sharing
