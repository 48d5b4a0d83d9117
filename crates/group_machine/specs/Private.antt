pub mod Changes
pub mod ClusterView
pub mod GroupView
pub mod MembersLeft
pub mod Walks
