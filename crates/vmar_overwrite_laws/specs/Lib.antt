pub mod Answers
pub mod Overwrites
