pub mod Cursor
pub mod OneShot
