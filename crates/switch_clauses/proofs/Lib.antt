pub mod Same
pub mod Whole
pub mod Meaning
