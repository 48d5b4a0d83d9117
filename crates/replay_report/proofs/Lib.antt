pub mod LineFaults
pub mod Lines
pub mod Loaded
