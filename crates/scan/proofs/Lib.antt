pub mod Scans
pub mod Picks
pub mod Pigeons
pub mod Gather
pub mod Slices
pub mod Found
