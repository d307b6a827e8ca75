pub mod Turns
pub mod Short
