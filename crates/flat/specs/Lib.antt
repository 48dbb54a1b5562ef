pub mod Fit
pub mod Flat
pub mod Offer
