-- Definitions that only contracts of private functions and the view cite.
pub mod Hold
pub mod View
