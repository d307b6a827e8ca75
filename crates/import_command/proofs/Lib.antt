pub mod Untaken
pub mod Answered
