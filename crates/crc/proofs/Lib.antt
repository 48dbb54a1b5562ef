pub mod Algebra
pub mod Laws
pub mod Rule
pub mod Window
