pub mod Names
pub mod Others
pub mod Passes
pub mod Rounds
