pub mod Answered
pub mod Below
