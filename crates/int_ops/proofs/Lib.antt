pub mod Bits
pub mod Wraps
pub mod Ints
pub mod Updates
