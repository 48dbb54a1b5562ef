pub mod Main
pub mod Fronts
pub mod Marked
pub mod Others
pub mod Within
pub mod Rest
