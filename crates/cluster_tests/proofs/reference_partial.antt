mod Runs
pub mod Entries
pub mod Listed
