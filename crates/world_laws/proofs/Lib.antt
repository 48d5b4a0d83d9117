pub mod CountedOnce
pub mod Grown
pub mod Named
pub mod Out
pub mod Refused
pub mod Settled
pub mod Steps
