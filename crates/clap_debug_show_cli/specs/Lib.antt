pub mod Calls
pub mod Limits
pub mod Shown
pub mod Answers
pub mod Causes
pub mod Commands
pub mod Call
pub mod helpers
