pub mod Copies
pub mod Iterated
pub mod Placed
pub mod Slices
