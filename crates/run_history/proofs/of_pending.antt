pub mod Apart
pub mod Buffers
pub mod In
pub mod Issues
pub mod Nothing
pub mod Own
pub mod Stuck
pub mod Turns
