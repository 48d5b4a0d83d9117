pub mod Input
pub mod Jobs
