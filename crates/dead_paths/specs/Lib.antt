pub mod Causes
pub mod helpers
