pub mod Range
pub mod Space
pub mod Passes
pub mod Arrays
