pub mod Allocates
