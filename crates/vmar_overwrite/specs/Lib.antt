pub mod Overwrite
