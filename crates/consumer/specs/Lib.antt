pub mod Consumer
pub mod Private
