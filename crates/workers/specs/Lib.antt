pub mod Plans
pub mod Private
pub mod Progress
pub mod Runs
