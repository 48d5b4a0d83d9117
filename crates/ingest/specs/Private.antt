pub mod Columns
pub mod Counted
pub mod LimitLaws
pub mod Limits
pub mod Records
