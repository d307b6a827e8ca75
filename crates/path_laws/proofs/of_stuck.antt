pub mod Rests
pub mod Ends
pub mod Stuck
