pub mod Lines
pub mod Private
pub mod Reasons
pub mod Shown
pub mod Steps
