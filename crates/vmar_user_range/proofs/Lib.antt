pub mod Runs
pub mod Stretches
pub mod Laws
pub mod Calls
