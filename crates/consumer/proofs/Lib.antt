pub mod Changed
pub mod Slots
pub mod Valid
