pub mod Ends
pub mod PlanFaults
pub mod Ran
