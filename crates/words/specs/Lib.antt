-- What a list of words means, and how two such sets lie.
pub mod Sets
