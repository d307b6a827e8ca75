pub mod Calls
pub mod Lines
pub mod Meanings
pub mod Answers
pub mod helpers
