pub mod Descents
pub mod Attached
pub mod Loads
pub mod helpers
