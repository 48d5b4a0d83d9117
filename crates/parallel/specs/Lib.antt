pub mod Private
pub mod Values
