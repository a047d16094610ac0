pub mod Offsets
pub mod Found
pub mod Ends
