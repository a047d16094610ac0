pub mod Ready
pub mod Unmaps
pub mod Clears
