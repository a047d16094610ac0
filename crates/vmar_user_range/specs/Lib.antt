pub mod UserRange
pub mod Laws
