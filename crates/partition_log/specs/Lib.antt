pub mod Appends
pub mod Keys
pub mod Logs
pub mod Private
pub mod Taken
pub mod View
