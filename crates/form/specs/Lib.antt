pub mod Cutting
pub mod Form
