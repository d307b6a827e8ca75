pub mod Passes
pub mod Rests
pub mod Backwards
