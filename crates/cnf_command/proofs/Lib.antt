pub mod Runs
pub mod Answered
