pub mod Name
pub mod Place
pub mod Private
pub mod Topic
