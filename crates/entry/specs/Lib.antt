pub mod Entry
pub mod Fit
