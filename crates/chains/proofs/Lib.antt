-- The laws of chains and counts: filling them, walking along them, and what a walk gathers.
pub mod TableLaws
pub mod Chaining
pub mod Walks
pub mod CountLaws
pub mod Entering
pub mod Gathering
pub mod SharingLaws
pub mod Brought
pub mod ChainsOnce
