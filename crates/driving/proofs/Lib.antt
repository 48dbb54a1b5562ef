pub mod Runs
pub mod Chosen
pub mod Driven
