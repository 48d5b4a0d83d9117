pub mod Counting
pub mod Growth
pub mod Membership
