pub mod History
pub mod Tally
pub mod Run
