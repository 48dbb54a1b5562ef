pub mod Section
pub mod Fit
