pub mod Pieces
pub mod Said
pub mod Ran
