pub mod Private
pub mod Rounds
pub mod Withheld
