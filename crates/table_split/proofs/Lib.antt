pub mod Pieces
pub mod Once
pub mod Unfolds
pub mod Downs
pub mod Needs
pub mod Ends
