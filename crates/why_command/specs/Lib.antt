pub mod Causes
pub mod Meanings
pub mod Answers
pub mod helpers
