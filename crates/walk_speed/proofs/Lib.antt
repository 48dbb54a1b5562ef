pub mod Refused
pub mod Within
