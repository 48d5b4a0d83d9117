pub mod ScatteredKey
pub mod KeyHash
pub mod KeyWords
pub mod Sharded
pub mod StoredKey
