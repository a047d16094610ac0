pub mod Later
pub mod Search
pub mod Answers
pub mod Allocates
pub mod Maps
