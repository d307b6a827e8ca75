pub mod Asked
pub mod Found
pub mod Sound
pub mod Reached
