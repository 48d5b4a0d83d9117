pub mod Final
pub mod Granted
pub mod InPlace
pub mod Items
pub mod Rounds
pub mod WithheldRows
