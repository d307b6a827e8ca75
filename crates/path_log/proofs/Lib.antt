pub mod Loops
pub mod Bits
pub mod Packing
pub mod Runs
pub mod Texts
pub mod Logs
