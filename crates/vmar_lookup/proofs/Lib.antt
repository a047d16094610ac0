pub mod Lookups
pub mod Depth
pub mod Finds
pub mod Laws
pub mod Holding
