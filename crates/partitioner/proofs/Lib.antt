pub mod Counts
pub mod Groups
pub mod Hashes
pub mod Places
