pub mod Jumps
pub mod Waiting
