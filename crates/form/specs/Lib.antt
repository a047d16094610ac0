pub mod Form
pub mod Sweep
pub mod Sure
pub mod Lent
