pub mod Laws
pub mod Sameness
pub mod Sets
pub mod Counted
