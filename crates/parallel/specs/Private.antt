pub mod Done
pub mod Each
