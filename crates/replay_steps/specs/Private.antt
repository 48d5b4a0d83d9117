-- Definitions that only private contracts cite.
pub mod ShownLaws
pub mod Walks
