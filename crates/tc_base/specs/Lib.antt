pub mod Names
pub mod Paths
pub mod Buffers
pub mod States
pub mod helpers
