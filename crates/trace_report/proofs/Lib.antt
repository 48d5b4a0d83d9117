pub mod RowCells
pub mod SetTexts
pub mod Tellings
