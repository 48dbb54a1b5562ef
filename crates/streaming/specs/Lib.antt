pub mod Answers
pub mod Choose
pub mod Numbers
pub mod Record
pub mod State
