pub mod Pages
pub mod Sets
