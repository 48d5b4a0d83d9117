pub mod Codes
pub mod Columns
pub mod CommandLine
pub mod Topics
