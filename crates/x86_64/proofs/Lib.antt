pub mod Words
pub mod Format
pub mod ReadBack
