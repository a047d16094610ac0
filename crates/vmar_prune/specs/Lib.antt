pub mod Piece
pub mod Prune
pub mod Steps
