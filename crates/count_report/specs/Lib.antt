pub mod CountReport
pub mod Private
