pub mod PartitionSet
pub mod Private
pub mod SetRows
