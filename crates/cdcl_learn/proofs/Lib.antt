pub mod Counting
pub mod Meeting
pub mod Starting
pub mod Turning
pub mod Ending
