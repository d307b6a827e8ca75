pub mod Searches
pub mod Solving
pub mod helpers
