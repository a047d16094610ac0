pub mod Intel
pub mod Rules
pub mod Agrees
