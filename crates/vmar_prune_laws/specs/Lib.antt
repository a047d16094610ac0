pub mod Cutting
pub mod Order
pub mod Part
pub mod Lists
pub mod Cut
pub mod Calls
