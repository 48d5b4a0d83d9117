pub mod Bits
pub mod ElementsFrom
pub mod ElementsLeft
pub mod Indices
pub mod Lists
pub mod View
