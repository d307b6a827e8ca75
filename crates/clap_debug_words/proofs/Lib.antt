pub mod Taken
pub mod Numbers
pub mod PlainWords
pub mod Plain
pub mod Given
