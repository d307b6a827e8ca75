pub mod Rows
pub mod helpers
