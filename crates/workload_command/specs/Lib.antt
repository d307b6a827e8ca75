pub mod Works
pub mod Lines
pub mod Meanings
pub mod Answers
