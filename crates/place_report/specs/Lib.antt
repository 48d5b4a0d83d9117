pub mod Given
pub mod PlaceReport
pub mod PlaceRows
pub mod Private
