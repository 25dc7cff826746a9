-- What the contracts of this crate cite beside document 01's definitions in `rules`.
pub mod Reading
pub mod Places
