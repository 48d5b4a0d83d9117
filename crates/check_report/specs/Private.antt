pub mod PlacedRecords
pub mod RecordFindings
