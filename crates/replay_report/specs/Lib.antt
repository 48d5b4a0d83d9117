pub mod Private
pub mod ReplayReport
