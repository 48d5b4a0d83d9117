-- Definitions that only private contracts cite.
pub mod Given
pub mod KeyCounts
pub mod RecordList
pub mod Tallies
