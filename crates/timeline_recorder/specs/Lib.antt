pub mod Courses
pub mod Marks
pub mod Private
pub mod Reads
pub mod Recording
