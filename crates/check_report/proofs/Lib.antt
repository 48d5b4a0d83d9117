pub mod Fields
pub mod Files
pub mod Lines
pub mod Placed
pub mod Quotes
pub mod Starts
pub mod Told
