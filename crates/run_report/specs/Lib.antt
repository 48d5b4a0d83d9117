pub mod Private
pub mod RunReport
