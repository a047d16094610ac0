pub mod Doomed
