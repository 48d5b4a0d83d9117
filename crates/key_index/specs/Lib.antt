pub mod Interned
pub mod Keys
pub mod Private
