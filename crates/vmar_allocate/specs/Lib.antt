pub mod Allocate
