pub mod Arith
pub mod Updates
