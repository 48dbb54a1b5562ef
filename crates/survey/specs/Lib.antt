pub mod Survey
pub mod Entries
pub mod Goes
pub mod Counting
