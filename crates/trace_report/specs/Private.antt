-- Definitions that only private contracts cite.
pub mod Row
pub mod Runs
pub mod Texts
pub mod Written
