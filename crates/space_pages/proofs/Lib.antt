pub mod Alike
pub mod Slot
