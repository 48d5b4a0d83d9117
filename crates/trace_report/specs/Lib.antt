pub mod Cells
pub mod Private
pub mod Sets
pub mod TraceLaws
pub mod TraceReport
pub mod TraceRows
