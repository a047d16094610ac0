pub mod Slots
pub mod Steps
pub mod Ends
pub mod Answers
pub mod Overwrites
