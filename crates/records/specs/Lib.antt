pub mod Bits
pub mod Reader
pub mod Fields
pub mod Answer
