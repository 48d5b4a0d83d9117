pub mod Ended
pub mod PlanLemmas
pub mod Progressed
pub mod Read
pub mod Rosters
