pub mod Demand
pub mod Fitness
