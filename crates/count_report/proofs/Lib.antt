pub mod PartTexts
pub mod Reported
