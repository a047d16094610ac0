pub mod Parts
pub mod Rights
pub mod Buffers
pub mod Calls
