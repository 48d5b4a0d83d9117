pub mod Answered
pub mod Exact
pub mod Totals
