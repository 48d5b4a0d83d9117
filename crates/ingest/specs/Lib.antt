pub mod Counted
pub mod Limits
pub mod Private
pub mod RecordFaults
pub mod Records
pub mod Reports
