pub mod Account
pub mod Asking
pub mod Statement
pub mod Runs
pub mod Tidy
