-- Definitions that only private contracts and views cite.
pub mod Applied
pub mod Reading
pub mod Turns
pub mod View
