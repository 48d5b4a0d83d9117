pub mod Holders
pub mod Timelines
