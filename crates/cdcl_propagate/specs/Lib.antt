pub mod Propagation
pub mod helpers
