pub mod Effects
pub mod Processor
pub mod Frames
