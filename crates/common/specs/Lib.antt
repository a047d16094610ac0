pub mod Flags
pub mod Page
