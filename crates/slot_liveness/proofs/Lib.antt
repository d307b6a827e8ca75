pub mod Closes
pub mod Names
