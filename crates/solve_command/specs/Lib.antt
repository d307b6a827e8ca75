pub mod Calls
pub mod Meanings
pub mod Answers
pub mod helpers
