pub mod Counting
pub mod Extending
pub mod Owners
pub mod Reading
