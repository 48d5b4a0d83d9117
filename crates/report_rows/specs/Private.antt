pub mod Ranked
pub mod Slices
