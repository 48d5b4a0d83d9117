pub mod Begun
pub mod Owned
pub mod Sent
pub mod Values
