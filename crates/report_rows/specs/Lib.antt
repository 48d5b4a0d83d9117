pub mod CountRows
pub mod Private
pub mod ReplayRows
pub mod Rows
