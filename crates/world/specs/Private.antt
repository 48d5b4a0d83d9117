-- Definitions that only private contracts and the view cite.
pub mod Loading
pub mod Lookups
pub mod Turns
pub mod View
