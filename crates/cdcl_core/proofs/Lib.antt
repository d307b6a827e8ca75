pub mod Agreeing
pub mod Counts
pub mod Going
pub mod Searching
pub mod Starting
pub mod Dropping
pub mod Tallying
