pub mod Form
pub mod Parse
pub mod Answers
