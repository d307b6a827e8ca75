pub mod Greatest
pub mod Literals
pub mod Levels
pub mod Added
