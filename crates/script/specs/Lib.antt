pub mod Forms
pub mod Grammar
pub mod Limits
pub mod Plan
pub mod Private
pub mod Replay
pub mod Topics
