pub mod CommandLine
pub mod Values
pub mod Calls
pub mod PlainWords
pub mod Given
pub mod helpers
