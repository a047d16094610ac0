pub mod Dooms
pub mod Places
