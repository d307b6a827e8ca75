pub mod Lines
pub mod Counts
pub mod Moves
pub mod Drains
pub mod Threads
pub mod Laws
