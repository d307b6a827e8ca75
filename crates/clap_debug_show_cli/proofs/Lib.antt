pub mod OneAnswer
pub mod Calls
