pub mod Blocked
pub mod Drained
pub mod Stuck
