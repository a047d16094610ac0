pub mod Room
pub mod Calls
