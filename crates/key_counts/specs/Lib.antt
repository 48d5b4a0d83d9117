pub mod Counts
pub mod Merging
pub mod Partition
pub mod Private
pub mod Recorded
pub mod Rounds
pub mod Segments
