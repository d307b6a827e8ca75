pub mod Changes
pub mod Threads
pub mod Levels
