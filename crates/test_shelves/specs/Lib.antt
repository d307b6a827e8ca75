pub mod Plan
pub mod Readings
pub mod Mem
