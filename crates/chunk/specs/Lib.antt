pub mod Chunk
pub mod Fit
