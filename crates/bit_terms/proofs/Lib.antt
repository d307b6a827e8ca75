pub mod Found
pub mod Loops
pub mod Meaning
