pub mod Assigned
pub mod Balanced
pub mod Retained
pub mod Private
pub mod Target
