pub mod Sections
pub mod Zeros
pub mod Room
pub mod Numbers
pub mod Reading
pub mod Given
pub mod Examples
