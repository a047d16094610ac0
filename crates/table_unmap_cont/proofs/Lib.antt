pub mod Clears
pub mod Bound
pub mod Calls
pub mod Four
pub mod Demand
