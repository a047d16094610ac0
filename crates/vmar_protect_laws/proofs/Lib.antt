pub mod Righted
pub mod Pages
pub mod Covers
pub mod Answers
pub mod Tables
pub mod Leaves
pub mod Laws
