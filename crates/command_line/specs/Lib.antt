pub mod Columns
pub mod CommandLine
pub mod Delimiters
pub mod Explanations
pub mod Limits
pub mod Options
pub mod Private
pub mod Topics
