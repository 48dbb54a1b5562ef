pub mod Bounds
pub mod Demand
pub mod Fields
pub mod Fitness
