pub mod Final
pub mod Grants
