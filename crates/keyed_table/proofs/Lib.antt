pub mod Counted
pub mod Elements
pub mod Raised
