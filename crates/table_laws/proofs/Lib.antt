pub mod Writes
pub mod Grows
pub mod Leaves
pub mod Effects
pub mod Processor
pub mod Frames
