pub mod Offset
pub mod Ends
