pub mod Bounds
pub mod Fitness
