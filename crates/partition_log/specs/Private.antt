pub mod Appends
pub mod Filled
pub mod Shares
pub mod Tables
