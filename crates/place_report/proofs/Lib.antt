pub mod Headers
pub mod KeyCounts
pub mod Read
pub mod RecordList
pub mod Tables
pub mod Tallied
pub mod Told
