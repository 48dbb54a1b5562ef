pub mod Object
pub mod Fit
