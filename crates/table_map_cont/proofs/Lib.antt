pub mod Heights
pub mod Pages
pub mod Lowered
pub mod Steps
pub mod Counted
pub mod Runs
pub mod Taken
pub mod Ranges
