pub mod Bounds
pub mod Locating
pub mod Starting
