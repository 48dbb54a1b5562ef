pub mod Whole
pub mod Behind
