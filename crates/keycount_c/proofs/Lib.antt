pub mod AtWork
pub mod ClusterValues
pub mod ConsumerValues
pub mod Filling
pub mod Holding
pub mod Leased
pub mod Owning
pub mod Present
